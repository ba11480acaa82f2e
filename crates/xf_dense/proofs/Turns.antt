-- One turn of the machine.
use Rattle.std.proofs.Common.{◌≡◌, ℕ, zero, suc, ◌+◌, ◌<◌, ◌≤◌, true, false, List, length, Ok, Err, refl, sym, ap, ◌∙◌, arith}
use Rattle.xf_lex.specs.declared.token.Token.{Token}
use Rattle.xf_grammar.specs.Tokens.{Terminal, the_end, terminal, terminal_at}
use Rattle.xf_grammar.specs.Reading.{Out, ◌>>=◌}
use Rattle.xf_grammar.specs.Grammar.{ends, fails, goes, pushed, acted_if, stepped, looked, scan_at, stops, is_end}
use Rattle.xf_grammar.proofs.Basics.{past}
use Rattle.xf_dense.specs.declared.expected.Due.{Due}
use Rattle.xf_dense.specs.declared.expected.Stopped.{Stopped}
use Rattle.xf_dense.specs.declared.expected.Stopped.TheVariants as fault
use Rattle.xf_dense.specs.declared.state.Stage.{Stage}
use Rattle.xf_dense.specs.declared.state.Stage.TheVariants as stage
use Rattle.xf_dense.specs.declared.state.State.{State}
use Rattle.xf_dense.specs.Actions.{Reading}
use Rattle.xf_dense.specs.Machine.{Move, language, step, step_at, due_at}
use Rattle.xf_dense.specs.Reading.{Fails, Turn, moved}

abbrev Go : Type 0
Go = State → Reading → ℕ → Out Reading Due

-- behind a turn
abbrev then : Go → Turn → Out Reading Due
then go r = r >>= λ y. go y.0.0 y.0.1 y.1

read_then : (go : Go) (n : State) (r : Out Reading Due)
    → (r >>= λ y. go n y.0 y.1) ≡ then go (r >>= λ y. Ok ((n, y.0), y.1))
read_then go n (Ok y) = refl
read_then go n (Err e) = refl

step_then : (go : Go) (s : Move) (x : Terminal) (h : Reading) (at : ℕ) → is_end s ≡ false
    → stepped language go s x h at ≡ then go (moved s x h at)
step_then go ends x h at e = absurd cc
step_then go (fails d) x h at e = refl
step_then go (goes gap keep n k) x h at e = read_then go n
    (acted_if language k (pushed language keep at x h) at (at + 1))

at_end : (go : Go) (s : Stage) (m : State) (h : Reading) (at : ℕ)
    → Err (at, due_at s) ≡ then go (moved (step_at s m the_end) the_end h at)
at_end go stage.Start m h at = refl
at_end go stage.Item m h at = refl
at_end go stage.Digits m h at = refl
at_end go stage.Behind m h at = refl
at_end go stage.End m h at = refl

look_then : (go : Go) (m : State) (x : Terminal) (h : Reading) (at : ℕ) → stops language m x ≡ false
    → looked language go m x h at ≡ then go (moved (step m x) x h at)
look_then go m the_end h at e = at_end go m.stage m h at
look_then go m (terminal k bytes) h at e = step_then go (step m (terminal k bytes)) (terminal k bytes) h at e

-- what is left to read behind a turn gives the same
pub scan_goes : (f : ℕ) (all : List Token) (m n : State) (h g : Reading) (at : ℕ) → length all ≤ f + at
    → at < length all → stops language m (terminal_at all at) ≡ false
    → moved (step m (terminal_at all at)) (terminal_at all at) h at ≡ Ok ((n, g), at + 1)
    → (k : ℕ) × ((length all ≤ k + (at + 1)) × (scan_at language k all n g (at + 1) ≡ scan_at language f all m h at))
scan_goes zero all m n h g at room lt s e = absurd (omega (arith, room, lt))
scan_goes (suc f) all m n h g at room lt s e =
    (f, (omega (arith, room), sym (look_then (scan_at language f all) m (terminal_at all at) h at s ∙ ap (then (scan_at language f all)) e)))

scan_fails : (f : ℕ) (all : List Token) (m : State) (h : Reading) (at i : ℕ) (d : Due) → length all ≤ f + at
    → at < length all → stops language m (terminal_at all at) ≡ false
    → moved (step m (terminal_at all at)) (terminal_at all at) h at ≡ Err (i, d)
    → scan_at language f all m h at ≡ Err (i, d)
scan_fails zero all m h at i d room lt s e = absurd (omega (arith, room, lt))
scan_fails (suc f) all m h at i d room lt s e = look_then (scan_at language f all) m (terminal_at all at) h at s
    ∙ ap (then (scan_at language f all)) e

-- where the text ends
pub scan_past : (f : ℕ) (all : List Token) (m : State) (h : Reading) (at : ℕ) → length all ≤ at
    → scan_at language f all m h at ≡ Err (at, due_at m.stage)
scan_past zero all m h at le = refl
scan_past (suc f) all m h at le = rw (past all at le) refl

step_ends : (go : Go) (s : Move) (x : Terminal) (h : Reading) (at : ℕ) → is_end s ≡ true
    → stepped language go s x h at ≡ Ok (h, at)
step_ends go ends x h at e = refl
step_ends go s x h at e = absurd cc

-- where the machine ends
look_ends : (go : Go) (m : State) (x : Terminal) (h : Reading) (at : ℕ) → stops language m x ≡ true
    → looked language go m x h at ≡ Ok (h, at)
look_ends go m the_end h at e = absurd cc
look_ends go m (terminal k bytes) h at e = step_ends go (step m (terminal k bytes)) (terminal k bytes) h at e

pub scan_ends : (f : ℕ) (all : List Token) (m : State) (h : Reading) (at : ℕ) → length all ≤ f + at → at < length all
    → stops language m (terminal_at all at) ≡ true
    → scan_at language f all m h at ≡ Ok (h, at)
scan_ends zero all m h at room lt s = absurd (omega (arith, room, lt))
scan_ends (suc f) all m h at room lt s = look_ends (scan_at language f all) m (terminal_at all at) h at s

-- a turn that fails
pub turn_fails : (e : Stopped) (f : ℕ) (all : List Token) (m : State) (h : Reading) (at : ℕ) (q : Out Reading Due)
    → length all ≤ f + at → at < length all → stops language m (terminal_at all at) ≡ false
    → Fails e (moved (step m (terminal_at all at)) (terminal_at all at) h at) → scan_at language f all m h at ≡ q
    → Fails e q
turn_fails fault.NoMemory f all m h at q room lt s g e = tt
turn_fails (fault.At i d) f all m h at q room lt s g e = sym e ∙ scan_fails f all m h at i d room lt s g
