-- The modules that a run takes: one function over i32, of constants, additions and a return.
use Rattle.std.specs.Prelude.{◌≡◌, ℕ, List, [], ◌∷◌, Option, Some, None, Bool, true, false, not, ◌&&◌}
use Rattle.xf_type.specs.declared.payload_type.PayloadType.{PayloadType}
use Rattle.xf_type.specs.declared.payload_type.PayloadType.TheVariants.{Scalar}
use Rattle.xf_type.specs.declared.payload_type.Width.{Width}
use Rattle.xf_type.specs.declared.payload_type.Width.TheVariants.{I32}
use Rattle.xf_type.specs.declared.kind.BinKind.{BinKind}
use Rattle.xf_type.specs.declared.kind.BinKind.TheVariants.{Addi}
use Rattle.xf_ir.specs.declared.kind.Attr.{Attr}
use Rattle.xf_ir.specs.declared.kind.Kind.{Kind}
use Rattle.xf_ir.specs.declared.kind.Kind.TheVariants as kind
use Rattle.xf_ir.specs.declared.op.Module.{Module}
use Rattle.xf_ir.specs.Bounds.{ListsAreShort}
use Rattle.xf_ir.specs.Limits.{IsWithinLimits}
use Rattle.xf_ir.specs.Lists.{every, is_empty}
use Rattle.xf_ir.specs.RuleBlocks.{is_end}
use Rattle.xf_ir.specs.Tree.{Ops, no_ops, op, Regions, no_regions, region}
use Rattle.xf_ir.specs.Valid.{IsValid}

-- ---- types

abbrev pub is_i32_width : Width → Bool
is_i32_width I32 = true
is_i32_width _ = false

abbrev pub is_i32 : PayloadType → Bool
is_i32 (Scalar width) = is_i32_width width
is_i32 _ = false

-- nothing, or one type alone
abbrev pub is_i32_at_most : List PayloadType → Bool
is_i32_at_most [] = true
is_i32_at_most (t ∷ ts) = is_i32 t && is_empty ts

abbrev pub is_one_i32 : List PayloadType → Bool
is_one_i32 [] = false
is_one_i32 (t ∷ ts) = is_i32 t && is_empty ts

-- ---- operations of the function

abbrev pub is_addition : BinKind → Bool
is_addition Addi = true
is_addition _ = false

-- a return, a constant and an addition
abbrev pub is_step_kind : Kind → Bool
is_step_kind kind.Return = true
is_step_kind (kind.Constant width bits) = is_i32_width width
is_step_kind (kind.Binary which width) = is_addition which && is_i32_width width
is_step_kind _ = false

abbrev pub has_no_regions : Regions → Bool
has_no_regions no_regions = true
has_no_regions (region args ops rest) = false

-- such an operation, without attributes and regions
abbrev pub is_step : Kind → List Attr → List PayloadType → Regions → Bool
is_step k ds ts rs = is_step_kind k && (is_empty ds && (is_i32_at_most ts && has_no_regions rs))

abbrev pub are_steps : Ops → Bool
are_steps no_ops = true
are_steps (op n k ds os ts rs rest) = is_step k ds ts rs && are_steps rest

-- ---- the function

abbrev pub is_plain_block : List PayloadType → Ops → Bool
is_plain_block args ops = every is_i32 args && are_steps ops

abbrev pub is_one_block : Regions → Bool
is_one_block no_regions = false
is_one_block (region args ops rest) = is_plain_block args ops && has_no_regions rest

-- a function that has a body and gives one value
abbrev pub is_plain_head : Kind → Bool
is_plain_head (kind.Func symbol private results) = not private && is_one_i32 results
is_plain_head _ = false

abbrev pub is_plain_function : Kind → List Attr → Regions → Bool
is_plain_function k ds rs = is_plain_head k && (is_empty ds && is_one_block rs)

-- ---- the module

abbrev pub is_one_function : Ops → Bool
is_one_function no_ops = false
is_one_function (op n k ds os ts rs rest) = is_plain_function k ds rs && is_end rest

abbrev pub holds_one_function : Regions → Bool
holds_one_function no_regions = false
holds_one_function (region args ops rest) = (is_empty args && is_one_function ops) && has_no_regions rest

abbrev pub has_no_symbol : Option (List ℕ) → Bool
has_no_symbol None = true
has_no_symbol (Some s) = false

-- a module without a symbol
abbrev pub is_plain_module : Kind → Bool
is_plain_module (kind.Module symbol) = has_no_symbol symbol
is_plain_module _ = false

-- a module of one function alone, neither of which has attributes
abbrev pub is_first_form : Module → Bool
is_first_form m = is_plain_module m.root.kind && (is_empty m.root.attrs && holds_one_function m.root.regions)

-- a valid module of this form, with what each module has that a text spells: lists that are short, and no more than the
-- limits
pub record IsFirstForm (m : Module) : Type 0 where
  pub valid : IsValid m
  pub shape : is_first_form m ≡ true
  pub lists : ListsAreShort m
  pub limits : IsWithinLimits m
