-- The two sides of the actions agree; so an item that stands in a text is read there as what it says.
use Rattle.std.proofs.Common.{◌≡◌, ℕ, List, [], ◌∷◌, ◌++◌, length, Ok, refl, sym, ap, subst, ◌∙◌, arith}
use Rattle.std.specs.Prelude.{map, nat_lt, All}
use Rattle.std.proofs.lemmas.List.{map-append, length-map}
use Rattle.std.proofs.lemmas.List.Elements.{All-nil, All-head, All-push}
use Rattle.xf_lex.specs.declared.token.Token.{Token}
use Rattle.xf_type.specs.Limits.{most_entries}
use Rattle.xf_grammar.specs.Tokens.{Terminal, terminal, terminal_at, digits_of}
use Rattle.xf_grammar.specs.Grammar.{Lawful, scan, run, tokens_of, run_written, AllStand, step_next}
use Rattle.xf_grammar.proofs.Again.{again}
use Rattle.xf_dense.specs.declared.body.Body.{Body}
use Rattle.xf_dense.specs.declared.body.Literal.{Literal}
use Rattle.xf_dense.specs.declared.body.Literal.TheVariants as read
use Rattle.xf_dense.specs.declared.state.State.{State}
use Rattle.xf_dense.specs.Actions.{Action, integer_is, truth_is, shape_is, Reading, Saying, SaidBody, free, no_body, with_literal, says_literal, nothing_said, body_by, said_by, add, tell, room, space, literal_said, said, IsHeld, Says}
use Rattle.xf_dense.specs.Laws.{NestsAreReadInTexts}
use Rattle.xf_dense.specs.Machine.{language, start}
use Rattle.xf_dense.specs.Nests.{integer, nest_tokens, close_angle}
use Rattle.xf_dense.proofs.Reaching.{nest_is_read}

literal_says : (all : List Token) (l : Literal) (b : Body)
    → said all (with_literal l b) ≡ says_literal (literal_said all l) (said all b)
literal_says all l b = ap (λ ls. let t : SaidBody = record { literals = ls; extents = b.extents } in t)
    (map-append (literal_said all) b.literals (l ∷ []))

pub acted : (all : List Token) (k : Action) (hs : List (ℕ × Terminal)) (b : Body) → All (IsHeld all) hs
    → said all (body_by k hs b) ≡ said_by k (map (λ x. x.1) hs) (said all b)
acted all (integer_is negative) [] b s = refl
acted all (integer_is negative) (x ∷ xs) b s =
    literal_says all (read.Integer negative x.0) b
    ∙ ap (λ y. says_literal (integer negative (digits_of y)) (said all b)) (All-head (IsHeld all) x xs s)
acted all (truth_is t) hs b s = literal_says all (read.Truth t) b
acted all (shape_is extents) hs b s = refl

added : (all : List Token) (k : Action) (h : Reading) (t : Saying) → Says all h t → Says all (add k h) (tell k t)
added all k h t s = record {
  tokens = All-nil (IsHeld all);
  held = refl;
  body = acted all k h.held h.body s.tokens
      ∙ (ap (λ hs. said_by k hs (said all h.body)) s.held ∙ ap (said_by k t.held) s.body);
}

as_many : (all : List Token) (h : Reading) (t : Saying) → Says all h t
    → nat_lt (length h.body.literals) most_entries ≡ nat_lt (length t.said.literals) most_entries
as_many all h t s = ap (λ n. nat_lt n most_entries)
    (sym (length-map h.body.literals (literal_said all)) ∙ ap (λ u. length u.literals) s.body)

pub roomy : (all : List Token) (k : Action) (h : Reading) (t : Saying) → Says all h t → room k h ≡ space k t
roomy all (integer_is negative) h t s = as_many all h t s
roomy all (truth_is b) h t s = as_many all h t s
roomy all (shape_is extents) h t s = refl

pushed : (all : List Token) (h : Reading) (t : Saying) (at : ℕ) → Says all h t
    → Says all (language.push at (terminal_at all at) h) (language.hold (terminal_at all at) t)
pushed all h t at s = record {
  tokens = All-push (IsHeld all) h.held (at, terminal_at all at) s.tokens refl;
  held = map-append (λ (x : ℕ × Terminal). x.1) h.held ((at, terminal_at all at) ∷ [])
      ∙ ap (λ hs. hs ++ terminal_at all at ∷ []) s.held;
  body = s.body;
}

pub lawful : (all : List Token) → Lawful language all (Says all)
lawful all = record {
  ended = λ x h. refl;
  pushed = pushed all;
  added = added all;
  roomy = roomy all;
  tested = λ x y h t s. refl;
}

run_tokens : (m : State) (xs : List Terminal) → tokens_of (run_written language m xs) ≡ xs
run_tokens m [] = refl
run_tokens m (x ∷ xs) = ap (λ ys. x ∷ ys) (run_tokens (step_next m (language.step m x)) xs)

none_held : (hs : List (ℕ × Terminal)) → map (λ x. x.1) hs ≡ [] → hs ≡ []
none_held [] e = refl
none_held (x ∷ hs) e = absurd cc

pub nest_in_text : NestsAreReadInTexts
nest_in_text all at next t extents h few stand e =
    let x = nest_is_read t extents h few in
    let s : AllStand all at (tokens_of (run_written language start (nest_tokens t))) next = subst
    (λ xs. AllStand all at xs next) (sym (run_tokens start (nest_tokens t))) stand in
    let begin : Says all (free no_body) nothing_said = record { tokens = All-nil (IsHeld all); held = refl; body = refl } in
    let r = again language all (Says all) (lawful all) (length all) (omega arith) (scan start) (run (nest_tokens t))
    (free no_body) at next (terminal close_angle []) nothing_said begin e s x.0 in
    let g = subst (λ u. Says all r.0 u) x.1 r.1.1 in
    let f = ap (λ hs. let q : Reading = record { held = hs; body = r.0.body } in q) (none_held r.0.held g.held) in
    (r.0.body, (r.1.0 ∙ ap (λ q. Ok (q, next)) f, g.body))
