-- What a call returned is what a rule reads, unless memory ran out.
use Rattle.std.specs.Prelude.{◌≡◌, ℕ, Some, None, Result, Ok, Err, if◌then◌else◌}
use Rattle.xf_lex.specs.declared.token.TokenKind.TheVariants as kind
use Rattle.xf_type.specs.declared.payload_type.Shape.{Shape}
use Rattle.xf_grammar.specs.Tokens.{Terminal, is_kind}
use Rattle.xf_grammar.specs.Reading.{Out}
use Rattle.xf_format.specs.declared.expected.Expected.{Expected}
use Rattle.xf_format.specs.declared.expected.Expected.TheVariants as due
use Rattle.xf_format.specs.declared.expected.Stopped.{Stopped}
use Rattle.xf_format.specs.declared.expected.Stopped.TheVariants as fault
use Rattle.xf_format.specs.Words.{shape_meant}

abbrev pub Fails : {Y : Type 0} → Stopped → Out Y Expected → Type 0
Fails fault.NoMemory read = Unit {0}
Fails (fault.At i d) read = read ≡ Err (i, d)

abbrev pub Gives : {X Y : Type 0} → (X → Y × ℕ) → Result X Stopped → Out Y Expected → Type 0
Gives view (Ok x) read = read ≡ Ok (view x)
Gives view (Err e) read = Fails e read

-- the shape that a token writes is told, or what was due in its place
abbrev pub ShapeTold : Terminal → ℕ → Result Shape Stopped → Type 0
ShapeTold x at (Ok s) = shape_meant x ≡ Some s
ShapeTold x at (Err fault.NoMemory) = Unit {0}
ShapeTold x at (Err (fault.At i d)) =
    (shape_meant x ≡ None) × ((i ≡ at) × (d ≡ (if is_kind kind.Shape x then due.Shape else due.Other)))
