use Rattle.std.proofs.Common.{◌≡◌, ℕ, List, length, Ok, refl, sym}
use Rattle.xf_lex.specs.declared.token.Token.{Token}
use Rattle.xf_format.specs.declared.parts.Parts.{Parts}
use Rattle.xf_format.specs.declared.row.Level.{Level}
use Rattle.xf_format.specs.declared.row.Row.TheVariants as row
use Rattle.xf_format.specs.Actions.{free}
use Rattle.xf_format.specs.Format.{payload_head_at}
use Rattle.xf_format.specs.Parts.{no_parts}
use Rattle.xf_format.specs.Rows.{slots}
use Rattle.xf_format.specs.Rules.{by, head_rule, slots_rule}
use Rattle.xf_format.proofs.Leaving.{slots_keep_row}
use Rattle.xf_format.proofs.heads.head_at.Goals as goal

-- the word of an operation, and what the slots of its row read behind it
word_and_slots : (all : List Token) (l : Level) (at m n : ℕ) (p q : Parts)
    → by (head_rule l) all (no_parts row.Module) at ≡ Ok (free p, m)
    → by (slots_rule (slots p.row)) all p m ≡ Ok (free q, n) → payload_head_at all l at ≡ Ok ((q.row, free q), n)
word_and_slots all l at m n p q e f =
    let s = slots_keep_row all (slots p.row) (length all) (free p) (free q) m n f in
    rw (e, f, s) refl

pub returns-clause-gives : goal.returns-clause-gives
returns-clause-gives c =
    word_and_slots c.args.tokens.now c.args.level c.args.at c.in_ok-next.next c.in_ok-next-2.next c.begin_at.new.parts
    c.slots_at.new.parts (rw (sym c.new-parts.ensures) c.in_ok-next.ensures.gives)
    (rw (sym c.row_slots-slots.ensures) c.in_ok-next-2.ensures.gives)
