use Rattle.std.proofs.Common.{◌≡◌, drop}
use Rattle.xf_ir.specs.Lists.{every}
use Rattle.xf_opt.specs.Form.{is_i32}
use Rattle.xf_opt.proofs.form.are_i32.Given as goal

-- what is left passes where the whole does
abbrev pub invariant-loop-ty : goal.invariant-loop-ty
invariant-loop-ty l = every is_i32 (drop l.ty-index l.types) ≡ every is_i32 l.types
