-- The parts of a module of the first form.
use Rattle.std.proofs.Common.{◌≡◌, List, [], ◌∷◌, None, true, false, refl, ap}
use Rattle.std.specs.Prelude.{ℕ, Some, ◌&&◌}
use Rattle.std.proofs.lemmas.Bool.{and_parts}
use Rattle.xf_type.specs.declared.payload_type.PayloadType.{PayloadType}
use Rattle.xf_ir.specs.declared.name.OpName.{OpName}
use Rattle.xf_ir.specs.declared.name.ValueName.{ValueName}
use Rattle.xf_ir.specs.declared.kind.Attr.{Attr}
use Rattle.xf_ir.specs.declared.kind.Kind.{Kind}
use Rattle.xf_ir.specs.declared.kind.Kind.TheVariants as kind
use Rattle.xf_ir.specs.declared.op.Module.{Module}
use Rattle.xf_ir.specs.Lists.{every, is_empty}
use Rattle.xf_ir.specs.RuleBlocks.{is_end}
use Rattle.xf_ir.specs.Tree.{Ops, no_ops, op, Regions, no_regions, region}
use Rattle.xf_opt.specs.Form.{is_i32, is_one_i32, are_steps, is_plain_block, has_no_regions, is_one_block}
use Rattle.xf_opt.specs.Form.{is_plain_head, is_plain_function, is_one_function, is_plain_module, holds_one_function}
use Rattle.xf_opt.specs.Form.{is_first_form}

-- ---- empty lists

pub empty : {A : Type 0} (xs : List A) → is_empty xs ≡ true → xs ≡ []
empty [] e = refl
empty (x ∷ xs) e = absurd cc

pub no_more : (rs : Regions) → has_no_regions rs ≡ true → rs ≡ no_regions
no_more no_regions e = refl
no_more (region args ops rest) e = absurd cc

the_end : (ops : Ops) → is_end ops ≡ true → ops ≡ no_ops
the_end no_ops e = refl
the_end (op n k ds os ts rs rest) e = absurd cc

-- ---- the function

-- one block of it
pub record OneBlock (rs : Regions) : Type 0 where
  pub args : List PayloadType
  pub ops : Ops
  pub is : rs ≡ region args ops no_regions
  pub types : every is_i32 args ≡ true
  pub steps : are_steps ops ≡ true

pub block_parts : (rs : Regions) → is_one_block rs ≡ true → OneBlock rs
block_parts no_regions e = absurd cc
block_parts (region args ops rest) e =
    let p = and_parts (is_plain_block args ops) (has_no_regions rest) e in
    let q = and_parts (every is_i32 args) (are_steps ops) p.0 in
    record { args = args; ops = ops; is = ap (region args ops) (no_more rest p.1); types = q.0; steps = q.1 }

pub record OneHead (k : Kind) : Type 0 where
  pub symbol : List ℕ
  pub results : List PayloadType
  pub is : k ≡ kind.Func symbol false results
  pub type : is_one_i32 results ≡ true

pub head_parts : (k : Kind) → is_plain_head k ≡ true → OneHead k
head_parts (kind.Func symbol false results) e = record { symbol = symbol; results = results; is = refl; type = e }
head_parts (kind.Func symbol true results) e = absurd cc
head_parts _ e = absurd cc

pub record OneFunction (ops : Ops) : Type 0 where
  pub name : OpName
  pub head : Kind
  pub operands : List ValueName
  pub gives : List PayloadType
  pub regions : Regions
  pub is : ops ≡ op name head [] operands gives regions no_ops
  pub heads : OneHead head
  pub block : OneBlock regions

one : (n : OpName) (k : Kind) (ds : List Attr) (os : List ValueName) (ts : List PayloadType) (rs : Regions) (rest : Ops)
    → ds ≡ [] → rest ≡ no_ops → op n k ds os ts rs rest ≡ op n k [] os ts rs no_ops
one n k ds os ts rs rest p q = cc

pub function_parts : (ops : Ops) → is_one_function ops ≡ true → OneFunction ops
function_parts no_ops e = absurd cc
function_parts (op n k ds os ts rs rest) e =
    let p = and_parts (is_plain_function k ds rs) (is_end rest) e in
    let q = and_parts (is_plain_head k) (is_empty ds && is_one_block rs) p.0 in
    let r = and_parts (is_empty ds) (is_one_block rs) q.1 in
    record {
      name = n;
      head = k;
      operands = os;
      gives = ts;
      regions = rs;
      is = one n k ds os ts rs rest (empty ds r.0)
          (the_end rest p.1);
      heads = head_parts k q.0;
      block = block_parts rs r.1;
    }

-- ---- the module

pub record OneRegion (rs : Regions) : Type 0 where
  pub ops : Ops
  pub is : rs ≡ region [] ops no_regions
  pub function : OneFunction ops

whole : (args : List PayloadType) (ops : Ops) (rest : Regions) → args ≡ [] → rest ≡ no_regions
    → region args ops rest ≡ region [] ops no_regions
whole args ops rest p q = cc

pub region_parts : (rs : Regions) → holds_one_function rs ≡ true → OneRegion rs
region_parts no_regions e = absurd cc
region_parts (region args ops rest) e =
    let p = and_parts (is_empty args && is_one_function ops) (has_no_regions rest) e in
    let q = and_parts (is_empty args) (is_one_function ops) p.0 in
    record {
      ops = ops;
      is = whole args ops rest (empty args q.0) (no_more rest p.1);
      function = function_parts ops q.1;
    }

pub plain_parts : (k : Kind) → is_plain_module k ≡ true → k ≡ kind.Module None
plain_parts (kind.Module None) e = refl
plain_parts (kind.Module (Some s)) e = absurd cc
plain_parts _ e = absurd cc

pub record Parts (m : Module) : Type 0 where
  pub symbol : m.root.kind ≡ kind.Module None
  pub attributes : m.root.attrs ≡ []
  pub region : OneRegion m.root.regions

pub parts : (m : Module) → is_first_form m ≡ true → Parts m
parts m e =
    let p = and_parts (is_plain_module m.root.kind) (is_empty m.root.attrs && holds_one_function m.root.regions) e in
    let q = and_parts (is_empty m.root.attrs) (holds_one_function m.root.regions) p.1 in
    record {
      symbol = plain_parts m.root.kind p.0;
      attributes = empty m.root.attrs q.0;
      region = region_parts m.root.regions q.1;
    }

-- the regions of such a module, laid out
abbrev pub laid_out : (rs : Regions) → OneRegion rs → Regions
laid_out rs o =
    region [] (op o.function.name
    (kind.Func o.function.heads.symbol false o.function.heads.results) [] o.function.operands o.function.gives
    (region o.function.block.args o.function.block.ops no_regions) no_ops) no_regions

pub are_laid_out : (rs : Regions) (o : OneRegion rs) → rs ≡ laid_out rs o
are_laid_out rs o =
    let f = o.function in
    let a : rs ≡ region [] o.ops no_regions = o.is in
    let b : o.ops ≡ op f.name f.head [] f.operands f.gives f.regions no_ops = f.is in
    let c : f.head ≡ kind.Func f.heads.symbol false f.heads.results = f.heads.is in
    let d : f.regions ≡ region f.block.args f.block.ops no_regions = f.block.is in
    cc
