-- What a function of a valid module returns fits the types that it returns.
use Rattle.std.proofs.Common.{◌≡◌, ℕ, List, [], ◌∷◌, Option, Some, None, Bool, true, false, refl, sym, ap}
use Rattle.std.proofs.Common.{◌∙◌, subst}
use Rattle.std.specs.Prelude.{map, length, if◌then◌else◌}
use Rattle.xf_type.specs.declared.payload_type.PayloadType.{PayloadType}
use Rattle.xf_ir.specs.declared.name.OpName.{OpName}
use Rattle.xf_ir.specs.declared.kind.Kind.{Kind}
use Rattle.xf_ir.specs.declared.kind.Kind.TheVariants as kind
use Rattle.xf_ir.specs.declared.op.Module.{Module}
use Rattle.xf_ir.specs.Tree.{Ops, no_ops, op, Regions, no_regions, region, Tree}
use Rattle.xf_ir.specs.Calls.{Signature, Signatures, signature, signatures, function_of, has_symbol, first_args}
use Rattle.xf_ir.specs.Kinds.{is_terminator, returned_types}
use Rattle.xf_ir.specs.Lists.{Each}
use Rattle.xf_ir.specs.Places.{results_of, args_of, done, inside}
use Rattle.xf_ir.specs.Types.{have_types}
use Rattle.xf_ir.specs.Placed.{Typed, type_at, Holder, holder_of, ops_placed, regions_placed, root_holder}
use Rattle.xf_ir.specs.Placed.{functions_of}
use Rattle.xf_ir.specs.RuleTypes.{row_of}
use Rattle.xf_ir.proofs.Lists.{each_left, each_right}
use Rattle.xf_sem.specs.declared.value.Value.{Value}
use Rattle.xf_sem.specs.Values.{FitTypes, fit_types}
use Rattle.xf_sem.specs.Meaning.{Env, extend, nowhere, gives, Run, finish, charge, and_then, Calls, does}
use Rattle.xf_sem.specs.Meaning.{ops_run, bodies_of, calls_to}
use Rattle.xf_sem.specs.Fitting.{ReturnedFit}
use Rattle.xf_sem.proofs.Fits.{fit_types_says}
use Rattle.xf_sem.proofs.Leads.{given_fits, went, went_fitting}
use Rattle.xf_sem.proofs.FittingRows.{types_fit}
use Rattle.xf_sem.proofs.Fitting.{Passes, taken_types}
use Rattle.xf_sem.proofs.Surroundings.{fits_more}
use Rattle.xf_sem.proofs.DefinedBlocks.{EnvFits, operands_fit}
use Rattle.xf_sem.proofs.Defined.{Ruled, ruled, function_found, returned_is, inner_passes}

-- what ends a block has the types that the holder expects
end_types : (sigs : Signatures) (hgives : List PayloadType) (k : Kind) (os : List (Option PayloadType))
    (ts : List PayloadType) → row_of sigs hgives k os ts ≡ true → is_terminator k ≡ true → have_types os hgives ≡ true
end_types sigs hgives kind.Return os ts r h = taken_types hgives [] os ts r
end_types sigs hgives kind.Yield os ts r h = taken_types hgives [] os ts r
end_types sigs hgives kind.LinalgYield os ts r h = taken_types hgives [] os ts r
end_types sigs hgives _ os ts r h = cc

module _ (sigs : Signatures) (c : Calls) where
  -- a block gives what its holder expects
  pub block_gives : (ops : Ops) (h : Holder) (tys : Typed) (e : Env) (holder : OpName) (ws : List Value)
      → Each (Passes sigs) (ops_placed h tys ops) → EnvFits tys e → (ops_run c holder ops e).answer ≡ gives ws
      → FitTypes ws h.gives
  block_gives no_ops h tys e holder ws a f g = cc
  block_gives (op n k ds os ts rs rest) h tys e holder ws a f g =
      let later = each_right (Passes sigs) (regions_placed (holder_of k (map (type_at tys) os) ts) tys n 0 rs) _ a.1 in
      let d = does c n k ts (bodies_of c n 0 rs e) (map e os) in
      let go : List Value
      → Run (List Value) = (λ vs. ops_run c holder rest (extend (results_of n (length ts)) vs e)) in
      cases (is_terminator k) refl g a.0.types
      (λ vs p q. block_gives rest h ((done n (length ts), ts) ∷ tys) (extend (results_of n (length ts)) vs e) holder ws
      later (fits_more (done n (length ts)) ts tys vs e
      (fit_types_says vs ts (given_fits c n k ts (bodies_of c n 0 rs e)
      (map e os) vs p)) f) q)
    where
      cases : (b : Bool) → is_terminator k ≡ b
          → (charge 1 (if b then finish (map e os) else and_then (does c n k ts (bodies_of c n 0 rs e) (map e os))
          (λ vs. ops_run c holder rest (extend (results_of n (length ts)) vs e)))).answer ≡ gives ws
          → row_of sigs h.gives k (map (type_at tys) os) ts ≡ true
          → ((vs : List Value) → (does c n k ts (bodies_of c n 0 rs e) (map e os)).answer ≡ gives vs
          → (ops_run c holder rest (extend (results_of n (length ts)) vs e)).answer ≡ gives ws → FitTypes ws h.gives)
          → FitTypes ws h.gives
      cases true t g r more =
          let wanted = end_types sigs h.gives k (map (type_at tys) os) ts r t in
          let q : map e os ≡ ws = cc in
          subst (λ us. FitTypes us h.gives) q
          (types_fit (map e os) (map (type_at tys) os) h.gives (operands_fit tys e os h.gives f wanted) wanted)
      cases false t g r more =
          let d = does c n k ts (bodies_of c n 0 rs e) (map e os) in
          let w = went d.units d.answer (λ vs. ops_run c holder rest (extend (results_of n (length ts)) vs e)) ws g in
          more w.0 w.1.0 w.1.1

function_gives : (m : Module) (c : Calls) (k : Kind) (n : OpName) (rs : Regions) (s : List ℕ)
    (os : List (Option PayloadType)) (ts : List PayloadType) (vs ws : List Value)
    → has_symbol s k ≡ true → Each (Passes (signatures m)) (regions_placed (holder_of k os ts) [] n 0 rs)
    → ((bodies_of c n 0 rs nowhere).block 0 vs).answer ≡ gives ws → FitTypes ws (returned_types k)
function_gives m c (kind.Func symbol private returns) n no_regions s os ts vs ws h a g = cc
function_gives m c (kind.Func symbol private returns) n (region args ops rest) s os ts vs ws h a g =
    let seen = (inside n 0 (length args), args) ∷ [] in
    let inner = ops_placed (holder_of (kind.Func symbol private returns) os ts) seen ops in
    let env = extend (args_of n 0 (length args)) vs nowhere in
    let w = went_fitting (fit_types vs args) n (ops_run c n ops env) ws g in
    block_gives (signatures m) c ops (holder_of (kind.Func symbol private returns) os ts) seen env n ws
    (each_left (Passes (signatures m)) inner _ a)
    (fits_more (inside n 0 (length args)) args [] vs nowhere (fit_types_says vs args w.0) (λ v t q. cc)) w.1
function_gives m c _ n rs s os ts vs ws h a g = cc

pub returned_fit : ReturnedFit
returned_fit m s sg vs ws v q f g = top (function_of s (functions_of m)) refl q
  where
    top : (o : Option Tree) → function_of s (functions_of m) ≡ o → signature o ≡ Some sg → FitTypes ws sg.results
    top None e q = cc
    top (Some t) e q =
        let found = function_found (Ruled m) (root_holder m.root) s (functions_of m) t (ruled m v) e in
        let c = calls_to 31 (functions_of m) in
        let same : record { inputs = first_args t.regions; results = returned_types t.kind } ≡ sg = cc in
        let runs : ((bodies_of c t.name 0 t.regions nowhere).block 0 vs).answer ≡ gives ws =
        sym (ap (λ (r : Run (List Value)). r.answer) (returned_is c m.root.name s vs (functions_of m) t e)) ∙ g in
        subst (λ (z : Signature). FitTypes ws z.results) same
        (function_gives m c t.kind t.name t.regions s (map (type_at []) t.operands) t.results vs ws found.symbol
        (inner_passes m v _ found.inner) runs)
