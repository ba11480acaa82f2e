-- No check of names or types finds a fault exactly where what the tokens say is right.
use Rattle.std.proofs.Common.{◌≡◌, ℕ, ◌+◌, Bool, true, false, ◌&&◌, not, cond, List, [], ◌∷◌, Option, Some, None, refl}
use Rattle.std.proofs.Common.{◌∙◌, arith}
use Rattle.std.specs.Prelude.{map, option_map}
use Rattle.std.specs.Option.{option_or}
use Rattle.std.proofs.Math.Bool.{and-true}
use Rattle.xf_type.specs.declared.payload_type.PayloadType.{PayloadType}
use Rattle.xf_lex.specs.declared.token.Token.{Token}
use Rattle.xf_format.specs.declared.parts.AttrEntry.{AttrEntry}
use Rattle.xf_format.specs.declared.parts.MapEntry.{MapEntry}
use Rattle.xf_format.specs.declared.parts.MapEntry.TheVariants as map_entry
use Rattle.xf_format.specs.declared.parts.Parts.{Parts}
use Rattle.xf_format.specs.declared.parts.Ref.{Ref}
use Rattle.xf_format.specs.declared.parts.Use.{Use}
use Rattle.xf_format.specs.declared.row.Row.{Row}
use Rattle.xf_format.specs.declared.row.Row.TheVariants as row
use Rattle.xf_format.specs.Parts.{text_at, use_said, define_said, arg_said, entry_said, map_said, said}
use Rattle.xf_ir.specs.Lists.{every}
use Rattle.xf_syntax.specs.declared.tree.File.{File}
use Rattle.xf_syntax.specs.Telling.{Nodes, no_nodes, node, Bodies, no_bodies, body, nodes_said, bodies_said}
use Rattle.xf_syntax.specs.Written.{file_said}
use Rattle.xf_read_base.specs.Attributes.{also, entries_twice}
use Rattle.xf_read.specs.declared.faults.Faults.{Faults}
use Rattle.xf_read.specs.Meant.{file_faults}
use Rattle.xf_read.specs.Names.{earlier, no_faults, with_faults, function_symbol, alias_in}
use Rattle.xf_read.specs.Names.{undefined_in}
use Rattle.xf_read.specs.Names.{visible_at, symbol_twice, results_twice, args_twice, types_agree}
use Rattle.xf_read.specs.Names.{head_faults, nodes_faults, bodies_faults, inside, behind}
use Rattle.xf_read.specs.Scopes.{Meanings, has_values, no_names, use_means}
use Rattle.xf_read.specs.Types.{argument_types}
use Rattle.xf_roundtrip.specs.SaidWell.{is_written, entries_once, is_new, symbol_new, defines_new, arguments_new}
use Rattle.xf_roundtrip.specs.SaidWell.{head_well, nodes_well, bodies_well, said_well}

-- ---- no fault

free : Option ℕ → Bool
free None = true
free (Some at) = false

pub faultless : Faults → Bool
faultless f = free f.undefined && (free f.twice && free f.mismatch)

pub none_of : (f : Faults) → faultless f ≡ true → f ≡ no_faults
unfolding free faultless
none_of f = by f.undefined f.twice f.mismatch
  where
    by : (u t m : Option ℕ) → (free u && (free t && free m)) ≡ true
        → record { undefined = u; twice = t; mismatch = m } ≡ no_faults
    by None None None e = refl
    by u t m e = absurd cc

pub nothing_faultless : faultless no_faults ≡ true
unfolding free faultless
nothing_faultless = refl

free_both : (a b : Option ℕ) {x y : Bool} → free a ≡ x → free b ≡ y → free (earlier a b) ≡ (x && y)
unfolding free
free_both a b e f = each a b ∙ (λ i. e i && f i)
  where
    each : (a b : Option ℕ) → free (earlier a b) ≡ (free a && free b)
    each None b = refl
    each (Some i) None = refl
    each (Some i) (Some j) = refl

free_or : (a b : Option ℕ) {x y : Bool} → free a ≡ x → free b ≡ y → free (option_or a b) ≡ (x && y)
unfolding free
free_or a b e f = each a b ∙ (λ i. e i && f i)
  where
    each : (a b : Option ℕ) → free (option_or a b) ≡ (free a && free b)
    each None b = refl
    each (Some i) b = refl

faultless_both : (f g : Faults) {x y : Bool} → faultless f ≡ x → faultless g ≡ y
    → faultless (with_faults f g) ≡ (x && y)
unfolding faultless
faultless_both f g e p =
    let a = free_both f.undefined g.undefined refl refl in
    let b = free_both f.twice g.twice refl refl in
    let c = free_both f.mismatch g.mismatch refl refl in
    (λ i. a i && (b i && c i))
    ∙ (in_order (free f.undefined) (free g.undefined) (free f.twice) (free g.twice) (free f.mismatch) (free g.mismatch)
    ∙ (λ i. e i && p i))
  where
    -- six truth values in another order
    in_order : (a b c d e f : Bool) → ((a && b) && ((c && d) && (e && f))) ≡ ((a && (c && e)) && (b && (d && f)))
    in_order a b c d e f = grind arith

if_free : (b : Bool) (o : Option ℕ) (at : ℕ) {x : Bool} → free o ≡ x → free (cond b o (Some at)) ≡ (b && x)
unfolding free
if_free true o at e = e
if_free false o at e = refl

unless_free : (b : Bool) (o : Option ℕ) (at : ℕ) {x : Bool} → free o ≡ x → free (cond b (Some at) o) ≡ (not b && x)
unfolding free
unless_free true o at e = refl
unless_free false o at e = e

module _ (all : List Token) where
  -- ---- uses and names

  uses_free : (scope : Meanings) (us : List Use)
      → free (undefined_in all scope us) ≡ every (use_means scope) (map (use_said all) us)
  unfolding free
  uses_free scope [] = refl
  uses_free scope (u ∷ us) = if_free _ _ _ (uses_free scope us)

  maps_free : (ms : List MapEntry) → free (alias_in ms) ≡ every is_written (map (map_said all) ms)
  unfolding free
  maps_free [] = refl
  maps_free (map_entry.Written m ∷ ms) = maps_free ms
  maps_free (map_entry.Alias at ∷ ms) = refl

  visible_free : (scope : Meanings) (at : ℕ) → free (visible_at all scope at) ≡ is_new scope (text_at all at)
  unfolding free
  visible_free scope at = unless_free _ None at refl ∙ and-true _

  entries_free : (names : List ℕ → Bool) (es : List AttrEntry)
      → free (entries_twice all names es) ≡ entries_once names (map (entry_said all) es)
  unfolding free
  entries_free names [] = refl
  entries_free names (e ∷ es) = unless_free _ _ _ (entries_free (also (text_at all e.name) names) es)

  symbol_free : (scope : Meanings) (r : Row) (at : Option ℕ) → free (symbol_twice all scope (function_symbol r at))
      ≡ symbol_new scope (function_symbol r (option_map (text_at all) at))
  unfolding free
  symbol_free scope row.Function None = refl
  symbol_free scope row.Function (Some at) = visible_free scope at
  symbol_free scope r at = refl

  results_free : (scope : Meanings) (rs : List Ref)
      → free (results_twice all scope rs) ≡ defines_new scope (map (define_said all) rs)
  unfolding free
  results_free scope [] = refl
  results_free scope (r ∷ rs) = or_none (has_values r.count) _ (visible_free scope r.token)
    where
      or_none : (b : Bool) (o : Option ℕ) {x : Bool} → free o ≡ x → free (cond b o None) ≡ cond b x true
      or_none true o e = e
      or_none false o e = refl

  args_free : (n j : ℕ) (ts : List PayloadType) (rs : List Ref) (scope : Meanings)
      → free (args_twice all n j ts rs scope) ≡ arguments_new n j ts (map (arg_said all) rs) scope
  unfolding free
  args_free n j ts [] scope = refl
  args_free n j ts (r ∷ rs) scope = free_both _ _ (visible_free scope r.token) (args_free n (j + 1) ts rs _)

  -- ---- all operations

  head_faultless : (n first : ℕ) (p : Parts) (scope : Meanings)
      → faultless (head_faults all n first p scope) ≡ head_well n (said all p) scope
  unfolding free faultless
  head_faultless n first p scope =
      let names = free_both _ _ (symbol_free scope p.row p.symbol) (results_free scope p.defines) in
      let args = free_both _ _ names (args_free n 0 (argument_types (said all p)) p.args scope) in
      let a = free_or _ _ (maps_free p.maps) (uses_free scope p.uses) in
      let b = free_both _ _ (entries_free (λ name. false) p.entries) args in
      let c = if_free (types_agree (said all p) scope) None first refl ∙ and-true _ in
      λ i. a i && (b i && c i)

  mutual
    nodes_faultless : (ns : Nodes) (n : ℕ) (scope : Meanings)
        → faultless (nodes_faults all n scope ns) ≡ nodes_well n scope (nodes_said all ns)
    nodes_faultless no_nodes n scope = nothing_faultless
    nodes_faultless (node first p bs rest) n scope =
        let inner = bodies_faultless bs (n + 1) p (inside n (said all p) scope) in
        faultless_both _ _ (faultless_both _ _ (head_faultless n first p scope) inner)
        (nodes_faultless rest _ (behind n (said all p) scope))

    bodies_faultless : (bs : Bodies) (n : ℕ) (p : Parts) (scope : Meanings)
        → faultless (bodies_faults all n p scope bs) ≡ bodies_well n (said all p) scope (bodies_said all bs)
    bodies_faultless no_bodies n p scope = nothing_faultless
    bodies_faultless (body ns close rest) n p scope =
        faultless_both _ _ (nodes_faultless ns n scope) (bodies_faultless rest _ p scope)

  pub file_faultless : (file : File) → faultless (file_faults all file) ≡ said_well (file_said all file)
  file_faultless file =
      let p : Parts = file.root.parts in
      faultless_both _ _ (head_faultless 0 file.root.first p no_names) (bodies_faultless file.root.bodies 1 p _)
