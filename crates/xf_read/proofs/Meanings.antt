-- A text spells one module or has one fault, and not both.
use Rattle.std.specs.Prelude.{Result}
use Rattle.std.proofs.Common.{◌≡◌, ◌⊎◌, inl, inr, ℕ, suc, ◌<◌, List, length, Option, Some, None, Ok, Err, refl, sym, ap}
use Rattle.std.proofs.Common.{subst, ◌∙◌, arith}
use Rattle.xf_span.specs.declared.fault.Fault.{Fault}
use Rattle.xf_lex.specs.declared.token.Token.{Token}
use Rattle.xf_lex.specs.Lexes.{Lexes}
use Rattle.xf_lex.proofs.Lexing.{one_reading, one_fault, never_both}
use Rattle.xf_format.specs.declared.expected.Expected.{Expected}
use Rattle.xf_format.specs.declared.expected.Stopped.{Stopped}
use Rattle.xf_format.specs.declared.expected.Stopped.TheVariants as stopped
use Rattle.xf_format.specs.Reading.{Fails}
use Rattle.xf_syntax.specs.File.{file_at}
use Rattle.xf_read_base.specs.Stops.{due_fault}
use Rattle.xf_read.specs.declared.faults.Faults.{Faults}
use Rattle.xf_syntax.specs.declared.tree.File.{File}
use Rattle.xf_syntax.specs.Laws.{IsText, AtNoText}
use Rattle.xf_read.specs.Meant.{meant, file_faults}
use Rattle.xf_read.specs.Names.{no_faults}
use Rattle.xf_read.specs.Spells.{StopsAt, Misnames, HasTokensWith, Misspells, SpellsOne, MisspellsOne, SpellsOrNot}
use Rattle.xf_read.specs.Spells.{IsUnread, unread, first_fault}

ok_same : {A E : Type 0} (r : Result A E) (x y : A) → r ≡ Ok x → r ≡ Ok y → x ≡ y
ok_same r x y p q = cc

err_same : {A E : Type 0} (r : Result A E) (x y : E) → r ≡ Err x → r ≡ Err y → x ≡ y
err_same r x y p q = cc

ok_or_err : {A E : Type 0} (r : Result A E) (x : A) (y : E) → r ≡ Ok x → r ≡ Err y → ⊥
ok_or_err r x y p q = absurd (cc)

-- what the tokens of a text or of none are read as
is_read : (all : List Token) (f : File) → IsText all f → file_at (suc (length all)) all ≡ Ok (f, length all)
is_read all f a = a (suc (length all)) (omega arith)

is_not_read : (all : List Token) (x : Fault) (b : StopsAt all x) → file_at (suc (length all)) all ≡ Err (b.at, b.due)
is_not_read all x b = b.stops (suc (length all)) (omega arith)

one_file : (all : List Token) (f g : File) → IsText all f → IsText all g → f ≡ g
one_file all f g a b = ap (λ (x : File × ℕ). x.0) (ok_same _ _ _ (is_read all f a) (is_read all g b))

file_or_stop : (all : List Token) (f : File) (x : Fault) → IsText all f → StopsAt all x → ⊥
file_or_stop all f x a b = ok_or_err _ _ _ (is_read all f a) (is_not_read all x b)

stops_same : (all : List Token) (f g : Fault) → StopsAt all f → StopsAt all g → f ≡ g
stops_same all f g a b =
    let same = err_same _ _ _ (is_not_read all f a) (is_not_read all g b) in
    a.is ∙ ap (λ (x : ℕ × Expected). due_fault all x.0 x.1) same ∙ sym b.is

misnames_same : (all : List Token) (f g : Fault) → Misnames all f → Misnames all g → f ≡ g
misnames_same all f g a b =
    let file = one_file all a.file b.file a.is_text b.is_text in
    let e = sym a.finds ∙ ap (λ x. first_fault all (file_faults all x)) file ∙ b.finds in
    cc (e)

-- what holds of a text by some tokens holds by its tokens
bad_at : (Bad : List Token → Fault → Type 0) (bytes : List ℕ) (all : List Token) (f : Fault) → Lexes bytes all
    → HasTokensWith Bad bytes f → Bad all f
bad_at Bad bytes all f x y = subst (λ ts. Bad ts f) (one_reading bytes y.tokens all y.lexes x) y.bad

pub spells_one : SpellsOne
spells_one bytes m n x y =
    let t = one_reading bytes y.tokens x.tokens y.lexes x.lexes in
    let f = one_file x.tokens y.file x.file (subst (λ ts. IsText ts y.file) t y.is_text) x.is_text in
    sym x.means ∙ (λ i. meant (sym t i) (sym f i)) ∙ y.means

-- a text that has tokens which spell nothing has one fault
misspells_so : (bytes : List ℕ) (all : List Token) (f g : Fault) → Lexes bytes all
    → (StopsAt all f ⊎ Misnames all f) → Misspells bytes g → f ≡ g
misspells_so bytes all f g x b (inl y) = absurd (never_both bytes all g x y)
misspells_so bytes all f g x (inl a) (inr (inl y)) = stops_same all f g a (bad_at StopsAt bytes all g x y)
misspells_so bytes all f g x (inr a) (inr (inr y)) = misnames_same all f g a (bad_at Misnames bytes all g x y)
misspells_so bytes all f g x (inl a) (inr (inr y)) =
    let b = bad_at Misnames bytes all g x y in
    absurd (file_or_stop all b.file f b.is_text a)
misspells_so bytes all f g x (inr a) (inr (inl y)) =
    absurd (file_or_stop all a.file g a.is_text (bad_at StopsAt bytes all g x y))

pub misspells_one : MisspellsOne
misspells_one bytes f g (inr (inl x)) y = misspells_so bytes x.tokens f g x.lexes (inl x.bad) y
misspells_one bytes f g (inr (inr x)) y = misspells_so bytes x.tokens f g x.lexes (inr x.bad) y
misspells_one bytes f g (inl x) (inl y) = one_fault bytes f g x y
misspells_one bytes f g (inl x) (inr (inl y)) = absurd (never_both bytes y.tokens f y.lexes x)
misspells_one bytes f g (inl x) (inr (inr y)) = absurd (never_both bytes y.tokens f y.lexes x)

pub spells_or_not : SpellsOrNot
spells_or_not bytes m f x (inl y) = never_both bytes x.tokens f x.lexes y
spells_or_not bytes m f x (inr (inl y)) =
    file_or_stop x.tokens x.file f x.is_text (bad_at StopsAt bytes x.tokens f x.lexes y)
spells_or_not bytes m f x (inr (inr y)) =
    let b = bad_at Misnames bytes x.tokens f x.lexes y in
    let file = one_file x.tokens b.file x.file b.is_text x.is_text in
    let e = sym b.finds ∙ ap (λ g. first_fault x.tokens (file_faults x.tokens g)) file
    ∙ ap (first_fault x.tokens) x.no_fault in
    absurd (cc (e))

-- ---- a text of which no check finds a fault

none_at : (all : List Token) (u t m : Option ℕ) → first_fault all
    (record { undefined = u; twice = t; mismatch = m }) ≡ None
    → record { undefined = u; twice = t; mismatch = m } ≡ no_faults
none_at all None None None e = refl
none_at all None None (Some i) e = absurd (cc)
none_at all None (Some i) m e = absurd (cc)
none_at all (Some i) t m e = absurd (cc)

pub none_found : (all : List Token) (f : Faults) → first_fault all f ≡ None → f ≡ no_faults
none_found all f e = none_at all f.undefined f.twice f.mismatch e

-- ---- a text whose syntax is not read

pub stopped_is_unread : (bytes : List ℕ) (all : List Token) (e : Stopped) → Lexes bytes all
    → ((f : ℕ) → length all < f → Fails e (file_at f all)) → AtNoText {A = File} (Err e) all
    → IsUnread bytes (unread all e)
stopped_is_unread bytes all stopped.NoMemory x stops away = tt
stopped_is_unread bytes all (stopped.At at d) x stops away =
    inr (inl (record {
      tokens = all;
      lexes = x;
      bad = record
          { at = at; due = d; stops = stops; no_text = away; is = refl };
    }))
