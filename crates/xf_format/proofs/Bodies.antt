-- The machine of bodies reads in an operation what it reads alone.
use Rattle.std.proofs.Common.{◌≡◌, ℕ, zero, suc, ◌+◌, Bool, true, false, List, length, Option, Some, None, Ok, Err, refl}
use Rattle.std.proofs.Common.{◌∙◌, sym, ap}
use Rattle.std.specs.Prelude.{if◌then◌else◌}
use Rattle.xf_lex.specs.declared.token.Token.{Token}
use Rattle.xf_grammar.specs.Tokens.{Terminal, the_end, terminal, terminal_at}
use Rattle.xf_grammar.specs.Reading.{Out, ◌>>=◌}
use Rattle.xf_grammar.specs.Grammar.{Step, ends, fails, goes, pushed, acted, closed, stepped, looked, scan_at}
use Rattle.xf_dense.specs.declared.expected.Due.{Due}
use Rattle.xf_dense.specs.Actions as dense
use Rattle.xf_dense.specs.Actions.{Action as BodyAction, integer_is, truth_is, shape_is}
use Rattle.xf_dense.specs.Machine as body
use Rattle.xf_format.specs.declared.expected.Expected.{Expected}
use Rattle.xf_format.specs.declared.parts.Parts.{Parts}
use Rattle.xf_format.specs.Actions.{Reading, dense_is}
use Rattle.xf_format.specs.Parts.{with_body}
use Rattle.xf_format.specs.Rules.{language}
use Rattle.xf_format.specs.Tests.{State, due_in, due_if, lifted}

-- what is read of a body, in an operation with these parts
abbrev pub within : Parts → dense.Reading → Reading
within p b = record { held = b.held; parts = with_body b.body p }

abbrev pub told : Parts → Out dense.Reading Due → Out Reading Expected
told p (Ok x) = Ok (within p x.0, x.1)
told p (Err e) = Err (e.0, due_in e.1)

closed_told : (p : Parts) (d : Option Due) (b : dense.Reading) (at : ℕ)
    → closed (due_if d) (within p b) at ≡ told p (closed d b at)
closed_told p None b at = refl
closed_told p (Some d) b at = refl

pushed_told : (p : Parts) (keep : Bool) (at : ℕ) (x : Terminal) (b : dense.Reading)
    → pushed language keep at x (within p b) ≡ within p (pushed body.language keep at x b)
pushed_told p true at x b = refl
pushed_told p false at x b = refl

-- behind an action, where there is room for it
room_told : (p : Parts) (r : Bool) (k : BodyAction) (b : dense.Reading) (at n : ℕ)
    → (go : Reading → ℕ → Out Reading Expected) (run : dense.Reading → ℕ → Out dense.Reading Due)
    → ((c : dense.Reading) (i : ℕ) → go (within p c) i ≡ told p (run c i))
    → let o : Out Reading Expected = if r then Ok (within p b, n) else Err (at, due_in (body.full k)) in
    let q : Out dense.Reading Due = if r then Ok (b, n) else Err (at, body.full k) in
    (o >>= λ y. go y.0 y.1) ≡ told p (q >>= λ y. run y.0 y.1)
room_told p true k b at n go run e = e b n
room_told p false k b at n go run e = refl

module _ (all : List Token) (p : Parts) where
  stepped_told : (go : State → Reading → ℕ → Out Reading Expected) (run : State → dense.Reading → ℕ → Out dense.Reading Due)
      → ((m : State) (c : dense.Reading) (i : ℕ) → go m (within p c) i ≡ told p (run m c i))
      → (s : Step BodyAction Due State) (x : Terminal) (b : dense.Reading) (at : ℕ)
      → stepped language go (lifted s) x (within p b) at ≡ told p (stepped body.language run s x b at)
  stepped_told go run e ends x b at = refl
  stepped_told go run e (fails d) x b at = refl
  stepped_told go run e (goes gap keep m None) x b at =
      ap (λ h. go m h (at + 1)) (pushed_told p keep at x b) ∙ e m (pushed body.language keep at x b) (at + 1)
  stepped_told go run e (goes gap true m (Some k)) x b at =
      room_told p (dense.room k (pushed body.language true at x b)) k (body.language.add k (pushed body.language true at x b))
      at (at + 1) (go m) (run m) (e m)
  stepped_told go run e (goes gap false m (Some k)) x b at =
      room_told p (dense.room k b) k (body.language.add k b) at (at + 1) (go m) (run m) (e m)

  looked_told : (go : State → Reading → ℕ → Out Reading Expected) (run : State → dense.Reading → ℕ → Out dense.Reading Due)
      → ((m : State) (c : dense.Reading) (i : ℕ) → go m (within p c) i ≡ told p (run m c i))
      → (m : State) (x : Terminal) (b : dense.Reading) (at : ℕ)
      → looked language go m x (within p b) at ≡ told p (looked body.language run m x b at)
  looked_told go run e m the_end b at = closed_told p (body.close m) b at
  looked_told go run e m (terminal k bytes) b at =
      stepped_told go run e (body.step m (terminal k bytes)) (terminal k bytes) b at

  pub scan_told : (f : ℕ) (m : State) (b : dense.Reading) (at : ℕ)
      → scan_at language f all m (within p b) at ≡ told p (scan_at body.language f all m b at)
  scan_told zero m b at = closed_told p (body.close m) b at
  scan_told (suc f) m b at =
      looked_told (scan_at language f all) (scan_at body.language f all) (scan_told f) m (terminal_at all at) b at
