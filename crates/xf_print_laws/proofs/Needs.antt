-- What the operations of a printed module need.
use Rattle.std.specs.Prelude.{◌≡◌, ℕ, zero, suc, ◌+◌, ◌^◌, ◌<◌, List, [], ◌∷◌, length, drop, Option, Some, None, Bool}
use Rattle.std.specs.Prelude.{true, false, not, ◌&&◌, ◌||◌}
use Rattle.xf_type.specs.declared.payload_type.PayloadType.{PayloadType}
use Rattle.xf_type.specs.declared.payload_type.PayloadType.TheVariants.{Scalar, Tensor}
use Rattle.xf_ir.specs.declared.name.OpName.{OpName}
use Rattle.xf_ir.specs.declared.name.ValueName.{ValueName}
use Rattle.xf_ir.specs.declared.name.ValueName.TheVariants.{Result, Arg, Free}
use Rattle.xf_ir.specs.declared.kind.Attr.{Attr}
use Rattle.xf_ir.specs.declared.kind.Kind.{Kind}
use Rattle.xf_ir.specs.declared.kind.Kind.TheVariants as kind
use Rattle.xf_ir.specs.declared.op.Module.{Module}
use Rattle.xf_ir.specs.Bounds.{IsShortAttr, HasShortLists}
use Rattle.xf_ir.specs.Kinds.{has_body, has_else, is_terminator, is_container, is_function, is_module, returned_types}
use Rattle.xf_ir.specs.Lists.{Each}
use Rattle.xf_ir.specs.Placed.{functions_of}
use Rattle.xf_ir.specs.RuleAttributes.{kind_fits, value_fits}
use Rattle.xf_ir.specs.RuleBlocks.{is_end, blocks_end}
use Rattle.xf_ir.specs.Tree.{Ops, no_ops, op, Regions, no_regions, region, Tree}
use Rattle.xf_ir.specs.Words.{is_word}
use Rattle.xf_printed.specs.Names.{DefinedValues, Names, no_names, with_ops, first_args, number_of, first_of, type_of}
use Rattle.xf_print_laws.specs.Stored.{HasBytes, IsShortIndex}
use Rattle.xf_printed.specs.Fills.{symbol_printed}
use Rattle.xf_shape.specs.Laws.{AreStored}
use Rattle.std.specs.Prelude.{option_and_then, slice_get}
use Rattle.xf_ir.specs.RuleTypes.{is_one_tensor}
use Rattle.xf_ir.specs.Types.{is_tensor_with, is_scalar}
use Rattle.std.specs.Prelude.{◌≤◌, ◌==◌, nat_lt}
use Rattle.xf_type.specs.declared.attribute.AffineMap.{AffineMap}
use Rattle.xf_ir.specs.Lists.{every, is_empty}
use Rattle.xf_ir.specs.RuleAttributes.{dense_fits}
use Rattle.xf_ir.specs.RuleLinalg.{numbers_once}
use Rattle.xf_ir.specs.RuleTypes.{open_count}
use Rattle.xf_printed.specs.Structured.{offsets_of, sizes_of, maps_of, iterators_of, window_values}
use Rattle.xf_ir.specs.Kinds.{is_generic}

-- what is printed for a value of such an entry has numbers of 64 bits
abbrev pub NamedResult : Option DefinedValues → ℕ → Type 0
NamedResult None num = ⊥
NamedResult (Some e) num = (e.number < 2 ^ 64) × (num < 2 ^ 32)

abbrev pub NamedArgument : Option DefinedValues → ℕ → Type 0
NamedArgument None num = ⊥
NamedArgument (Some e) num = e.first + num < 2 ^ 64

abbrev pub Named : Names → ValueName → Type 0
Named names (Result o num) = NamedResult (names.entry o.0) num
Named names (Arg o r num) = NamedArgument (names.entry o.0) num
Named names (Free num) = ⊥

-- a type whose extents are numbers of 32 bits, and of a rank of at most 8
abbrev pub TypeFits : PayloadType → Type 0
TypeFits (Scalar w) = Unit {0}
TypeFits (Tensor s) = AreStored s.dims × (length s.dims ≤ 8)

abbrev pub TypeKnown : Option PayloadType → Type 0
TypeKnown None = ⊥
TypeKnown (Some t) = TypeFits t

-- a value that has such a type and a name
abbrev pub Known : Names → ValueName → Type 0
Known names v = TypeKnown (type_of names v) × Named names v

-- a word that is short, where there is a symbol
abbrev pub SymbolFits : Option (List ℕ) → Type 0
SymbolFits None = Unit {0}
SymbolFits (Some s) = (is_word s ≡ true) × (length s < 2 ^ 32)

-- a word and a value of its width, both shorter than 2 ^ 32
pub record AttrFits (d : Attr) : Type 0 where
  pub name : is_word d.name ≡ true
  pub value : value_fits d.value ≡ true
  pub bytes : HasBytes d.value
  pub short : IsShortAttr d

-- a map that gives different ones of its dimensions
pub record MapFits (m : AffineMap) : Type 0 where
  pub dims : m.dims < 2 ^ 32
  pub few : length m.results < 2 ^ 32
  pub below : every (λ k. nat_lt k m.dims) m.results ≡ true
  pub once : numbers_once m.results ≡ true

-- what a kind has is short, and its windows have numbers of 64 bits
pub record PropertiesFit (t : Tree) : Type 0 where
  pub offsets : length (offsets_of t.kind) < 2 ^ 32
  pub sizes : length (sizes_of t.kind) < 2 ^ 32
  pub offset_numbers : Each IsShortIndex (offsets_of t.kind)
  pub size_numbers : Each IsShortIndex (sizes_of t.kind)
  pub maps : length (maps_of t.kind) < 2 ^ 32
  pub iterators : length (iterators_of t.kind) < 2 ^ 32
  pub types : is_generic t.kind ≡ true → length t.operands + length (first_args t.regions) < 2 ^ 32

-- the numbers of a fixed shape
abbrev pub DenseFits : Kind → Type 0
DenseFits (kind.Dense shape numbers) = (dense_fits shape numbers ≡ true) × AreStored shape.dims
DenseFits k = Unit {0}

-- whether there are so many
abbrev pub has_count : {A : Type 0} → ℕ → List A → Bool
has_count zero [] = true
has_count zero (x ∷ xs) = false
has_count (suc n) [] = false
has_count (suc n) (x ∷ xs) = has_count n xs

abbrev pub has_two_or_three : {A : Type 0} → List A → Bool
has_two_or_three (a ∷ (b ∷ [])) = true
has_two_or_three (a ∷ (b ∷ (c ∷ []))) = true
has_two_or_three xs = false

abbrev pub has_three : {A : Type 0} → List A → Bool
has_three (a ∷ (b ∷ (c ∷ xs))) = true
has_three xs = false

abbrev pub is_tensor : Option PayloadType → Bool
is_tensor o = is_tensor_with (λ s. true) o

-- the type of the operand with a number
abbrev pub typed : Names → List ValueName → ℕ → Option PayloadType
typed names os i = option_and_then (type_of names) (slice_get os i)

-- a value for each offset and size that is no number
abbrev pub has_window : Kind → List ValueName → Bool
has_window k os = length (window_values k os) == open_count (offsets_of k) + open_count (sizes_of k)

-- operands and results as the kind has them in print: so many, and tensors where its row asks for some
abbrev pub counted : Names → Kind → List ValueName → List PayloadType → Bool
counted names (kind.Module symbol) os ts = has_count 0 os
counted names (kind.Func symbol private results) os ts = has_count 0 os
counted names (kind.Constant width bits) os ts = has_count 0 os
counted names (kind.Binary which width) os ts = has_count 2 os
counted names (kind.Compare which width) os ts = has_count 2 os
counted names (kind.Select width) os ts = has_count 3 os
counted names (kind.Convert which from to) os ts = has_count 1 os
counted names (kind.For width) os ts = has_three os
counted names kind.If os ts = has_count 1 os
counted names kind.Empty os ts = is_one_tensor ts
counted names kind.Dim os ts = has_count 2 os && is_tensor (typed names os 0)
counted names kind.Extract os ts = is_tensor (typed names os 0)
counted names kind.Insert os ts = is_tensor (typed names os 1)
counted names kind.Cast os ts = has_count 1 os && has_count 1 ts
counted names (kind.Named which) os ts = has_two_or_three os && has_count 1 ts
counted names (kind.Dense shape numbers) os ts = has_count 0 os
counted names (kind.ExtractSlice offsets sizes) os ts =
    not (is_empty os) && (has_count 1 ts && has_window (kind.ExtractSlice offsets sizes) os)
counted names (kind.InsertSlice offsets sizes) os ts =
    not (is_empty (drop 1 os)) && has_window (kind.InsertSlice offsets sizes) os
counted names (kind.Generic maps iterators) os ts = not (is_empty os) && has_count 1 ts
counted names kind.LinalgYield os ts = has_count 1 os && is_scalar (typed names os 0)
counted names k os ts = true

abbrev pub is_none : Regions → Bool
is_none no_regions = true
is_none (region args ops rest) = false

-- one region, or two where the second is that of else, or none
abbrev pub has_others : Kind → Regions → Bool
has_others k no_regions = true
has_others k (region args ops rest) = has_else k && is_none rest

abbrev pub has_regions : Kind → Regions → Bool
has_regions k no_regions = not (has_body k)
has_regions k (region args ops rest) = has_body k && has_others k rest

-- the arguments of the first block: of a loop its number and what it carries; of a linalg.generic those that it has
abbrev pub arguments_of : Kind → List PayloadType → List PayloadType → List PayloadType
arguments_of (kind.Func symbol private results) ts args = args
arguments_of (kind.For width) ts args = Scalar width ∷ ts
arguments_of (kind.Generic maps iterators) ts args = args
arguments_of k ts args = []

-- a loop carries as many values as it has results
abbrev pub CarriedRight : Kind → List ValueName → List PayloadType → Type 0
CarriedRight (kind.For width) os ts = length (drop 3 os) ≡ length ts
CarriedRight k os ts = Unit {0}

abbrev pub tree : OpName → Kind → List Attr → List ValueName → List PayloadType → Regions → Tree
tree n k ds os ts rs = record { name = n; kind = k; attrs = ds; operands = os; results = ts; regions = rs }

-- what an operation before others has, so that what it writes fits
pub record Fits (names : Names) (t : Tree) (rest : Ops) : Type 0 where
  pub kind_fit : kind_fits t.kind ≡ true
  pub symbol : SymbolFits (symbol_printed t.kind)
  pub attrs : Each AttrFits t.attrs
  pub values : Each (Known names) t.operands
  pub count : counted names t.kind t.operands t.results ≡ true
  pub regions : has_regions t.kind t.regions ≡ true
  pub arguments : first_args t.regions ≡ arguments_of t.kind t.results (first_args t.regions)
  pub carried : CarriedRight t.kind t.operands t.results
  pub results : Each TypeFits t.results
  pub args : Each TypeFits (first_args t.regions)
  pub returned : Each TypeFits (returned_types t.kind)
  pub number : number_of (names.entry t.name.0) < 2 ^ 64
  pub first : first_of (names.entry t.name.0) + length (first_args t.regions) < 2 ^ 64
  pub few : HasShortLists t
  pub dense : DenseFits t.kind
  pub maps : Each MapFits (maps_of t.kind)
  pub window : open_count (offsets_of t.kind) + open_count (sizes_of t.kind) ≤ length (window_values t.kind t.operands)
  pub properties : PropertiesFit t
  pub last : (not (is_terminator t.kind) || is_end rest) ≡ true
  pub ends : blocks_end t.kind t.regions ≡ true

abbrev mutual
  pub OpsFit : Names → Ops → Type 0
  OpsFit names no_ops = Unit {0}
  OpsFit names (op n k ds os ts rs rest) =
      (is_container k ≡ false) × (Fits names (tree n k ds os ts rs) rest × (RegionsFit names rs × OpsFit names rest))

  pub RegionsFit : Names → Regions → Type 0
  RegionsFit names no_regions = Unit {0}
  RegionsFit names (region args ops rest) = OpsFit names ops × RegionsFit names rest

-- the names of the values of a function
abbrev pub names_in : OpName → Kind → List Attr → List ValueName → List PayloadType → Regions → Names
names_in n k ds os ts rs = with_ops no_names (op n k ds os ts rs no_ops)

-- functions without results
abbrev pub FunctionsFit : Ops → Type 0
FunctionsFit no_ops = Unit {0}
FunctionsFit (op n k ds os ts rs rest) =
    (is_function k ≡ true)
    × ((ts ≡ [])
    × (Fits (names_in n k ds os ts rs) (tree n k ds os ts rs) no_ops ×
    (RegionsFit (names_in n k ds os ts rs) rs × FunctionsFit rest)))

-- a module whose operations are so
pub record ModuleFits (m : Module) : Type 0 where
  pub is_root : is_module m.root.kind ≡ true
  pub no_results : m.root.results ≡ []
  pub one : m.root.regions ≡ region [] (functions_of m) no_regions
  pub root : Fits no_names m.root no_ops
  pub functions : FunctionsFit (functions_of m)
