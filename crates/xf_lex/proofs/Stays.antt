-- Runs of bytes, whatever is behind them, as long as it does not go on with them; and the digits of a number.
use Rattle.std.proofs.Common.{◌≡◌, ℕ, suc, ◌+◌, ◌%◌, ◌^◌, ◌<◌, Bool, true, false, List, [], ◌∷◌, ◌++◌, length, refl, ap}
use Rattle.std.proofs.Common.{arith, length-append}
use Rattle.std.specs.Fmt.{decimal}
use Rattle.std.proofs.lemmas.Bool.{le-leb}
use Rattle.std.proofs.lemmas.Fmt.{decimal_by_steps}
use Rattle.xf_type.specs.Bytes.{is_digit}
use Rattle.xf_lex.specs.Bytes.{run}

abbrev pub AllPass : (ℕ → Bool) → List ℕ → Type 0
AllPass p [] = Unit {0}
AllPass p (b ∷ bs) = (p b ≡ true) × AllPass p bs

-- what is behind does not go on
abbrev pub Stops : (ℕ → Bool) → List ℕ → Type 0
Stops p [] = Unit {0}
Stops p (b ∷ bs) = p b ≡ false

run_none : (p : ℕ → Bool) (rest : List ℕ) → Stops p rest → run p rest ≡ 0
run_none p [] stops = refl
run_none p (b ∷ bs) stops = rw stops refl

pub run_all : (p : ℕ → Bool) (bs rest : List ℕ) → AllPass p bs → Stops p rest → run p (bs ++ rest) ≡ length bs
run_all p [] rest all stops = run_none p rest stops
run_all p (b ∷ bs) rest all stops = let e = all.0 in rw e (ap suc (run_all p bs rest all.1 stops))

all_more : (p : ℕ → Bool) (bs : List ℕ) (b : ℕ) → AllPass p bs → p b ≡ true → AllPass p (bs ++ b ∷ [])
all_more p [] b all e = (e, tt)
all_more p (a ∷ bs) b all e = (all.0, all_more p bs b all.1 e)

digit_is : (n : ℕ) → n < 10 → is_digit (48 + n) ≡ true
digit_is n lt = let a = le-leb 48 (48 + n) (omega arith) in let b = le-leb (48 + n) 57 (omega arith) in rw (a, b) refl

-- one digit or more
pub record Digits (ds : List ℕ) : Type 0 where
  pub all : AllPass is_digit ds
  pub some : 0 < length ds

pub decimal_digits : (n : ℕ) → n < 2 ^ 64 → Digits (decimal n)
decimal_digits n lt = decimal_by_steps (λ n ds. Digits ds)
    (λ n lt. record { all = (digit_is n lt, tt); some = omega arith })
    (λ n ds le d. record {
      all = all_more is_digit ds (48 + n % 10) d.all (digit_is (n % 10) (omega arith));
      some = omega (arith, length-append ds ((48 + n % 10) ∷ []));
    }) n lt
