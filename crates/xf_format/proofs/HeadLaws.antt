-- The laws of heads, from those of every format.
use Rattle.std.proofs.Common.{◌≡◌, ℕ, suc, List, length, Ok, Err, sym, subst, ◌∙◌, arith}
use Rattle.xf_lex.specs.declared.token.Token.{Token}
use Rattle.xf_grammar.specs.Lookahead.{Agree, reach}
use Rattle.xf_grammar.specs.Reading.{Out}
use Rattle.xf_grammar.proofs.Heads.{head_again, head_found, head_apart, head_kept, head_steady}
use Rattle.xf_format.specs.declared.expected.Expected.{Expected}
use Rattle.xf_format.specs.declared.row.Level.{Level}
use Rattle.xf_format.specs.declared.row.Row.{Row}
use Rattle.xf_format.specs.declared.row.Row.TheVariants as row
use Rattle.xf_format.specs.Actions.{Reading, Says}
use Rattle.xf_format.specs.Format.{format, payload_head_at}
use Rattle.xf_format.specs.Laws.{HeadsAreWritten, HeadsReadAgain, HeadsHaveRows, NoHeadGoesOn, StopsAgain, HeadsStay}
use Rattle.xf_format.specs.Laws.{HeadsAreShort, HeadsAreWithin}
use Rattle.xf_format.specs.Parts.{said}
use Rattle.xf_format.specs.Rows.{slots}
use Rattle.xf_format.specs.Short.{HasShortParts}
use Rattle.xf_format.proofs.Fitting.{fitting}
use Rattle.xf_format.proofs.Leaving.{slots_keep_row}
use Rattle.xf_format.proofs.Short.{keeps_short, none_short}
use Rattle.xf_format.proofs.Within.{Within, keeps_within, none_within}

pub heads_are_written : HeadsAreWritten
heads_are_written all l at next r h e =
    let x = head_found format all (Says all) (said all) (fitting all) (length all) (omega arith) l r h at next e in
    (x.0, x.1, (x.2.0, (x.2.1.0, x.2.1.1.parts)))

pub heads_read_again : HeadsReadAgain
heads_read_again all l at next p s stand =
    let x = head_again format all (Says all) (said all) (fitting all) (length all) (omega arith) l p s at next stand in
    (x.0, (x.1.0, x.1.1.parts))

pub heads_have_rows : HeadsHaveRows
heads_have_rows all l at next r h e =
    let x = head_apart format (length all) all l r h at next e in
    slots_keep_row all (slots r) (length all) x.0.0 h x.0.1 next x.1.1.1 ∙ x.1.1.0

-- each text that agrees as far as reading looks is read so
agreeing : (all us : List Token) (l : Level) (at : ℕ) (r : Out (Row × Reading) Expected) → payload_head_at all l at ≡ r
    → Agree (suc (reach r)) all us → payload_head_at us l at ≡ r
agreeing all us l at r e a = (head_steady format all l at).same us (subst (λ o. Agree (suc (reach o)) all us) (sym e) a)
    ∙ e

pub stops_again : StopsAgain
stops_again all us l at i d e a = agreeing all us l at (Err (i, d)) e a

pub heads_stay : HeadsStay
heads_stay all us l at next r h e a = agreeing all us l at (Ok ((r, h), next)) e a

pub no_head_goes_on : NoHeadGoesOn
no_head_goes_on all us l at i d e a next p s stand =
    let x = heads_read_again us l at next p s stand in
    let stop = stops_again all us l at i d e a in
    absurd (ok_is_no_fault (sym x.1.0 ∙ stop))
  where
    ok_is_no_fault : {x : (Row × Reading) × ℕ} {y : ℕ × Expected}
        → let o : Out (Row × Reading) Expected = Ok x in o ≡ Err y → ⊥
    ok_is_no_fault e = absurd cc

pub heads_are_short : HeadsAreShort
heads_are_short all l at next r h e =
    head_kept format all (λ n k. HasShortParts k.parts) (keeps_short all) (length all) l r h at next
    (none_short row.Module) e

pub heads_are_within : HeadsAreWithin
heads_are_within all l at next r h e =
    (head_kept format all Within (keeps_within all) (length all) l r h at next (none_within at row.Module) e).parts
