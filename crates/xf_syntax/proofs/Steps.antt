-- An operation: its head, its bodies, and what stands behind them.
use Rattle.std.proofs.Common.{◌≡◌, ℕ, ◌+◌, List, Ok, refl}
use Rattle.xf_lex.specs.declared.token.Token.{Token}
use Rattle.xf_grammar.specs.Tree.{Bodies, limited, tree}
use Rattle.xf_format.specs.declared.expected.Expected.TheVariants as due
use Rattle.xf_format.specs.declared.expected.Stopped.{Stopped}
use Rattle.xf_format.specs.declared.expected.Stopped.TheVariants as fault
use Rattle.xf_format.specs.declared.parts.Parts.{Parts}
use Rattle.xf_format.specs.declared.row.Level.{Level}
use Rattle.xf_format.specs.Actions.{free}
use Rattle.xf_format.specs.Format.{most_operations, payload_head_at}
use Rattle.xf_format.specs.Reading.{Fails}
use Rattle.xf_format.specs.Rows.{bodies, tail}
use Rattle.xf_format.specs.Rules.{by, slots_rule}
use Rattle.xf_syntax.specs.File.{payload_block_at, payload_bodies_at, payload_node_at}

-- the head of an operation that is not one too many
abbrev Heads : List Token → Level → ℕ → ℕ → Parts → ℕ → Type 0
Heads all l count at p m = limited most_operations due.ListEnd count at (payload_head_at all l at) ≡ Ok
    ((p.row, free p), m)

pub bodies_fail : (e : Stopped) (f : ℕ) (all : List Token) (l : Level) (depth count at m : ℕ) (p : Parts)
    → Heads all l count at p m
    → Fails e (payload_bodies_at (bodies p.row) all (payload_block_at f all p.row depth) (free p) (count + 1) m)
    → Fails e (payload_node_at f all l depth count at)
unfolding payload_node_at payload_bodies_at payload_block_at
bodies_fail fault.NoMemory f all l depth count at m p h b = tt
bodies_fail (fault.At i d) f all l depth count at m p h b = rw (h, b) refl

pub tail_fails : (e : Stopped) (f : ℕ) (all : List Token) (l : Level) (depth count at m : ℕ) (p q : Parts)
    (bs : Bodies Parts) (c n : ℕ) → Heads all l count at p m
    → payload_bodies_at (bodies p.row) all (payload_block_at f all p.row depth) (free p)
    (count + 1) m ≡ Ok (((free q, bs), c), n) → Fails e (by (slots_rule (tail p.row)) all q n)
    → Fails e (payload_node_at f all l depth count at)
unfolding payload_node_at payload_bodies_at payload_block_at
tail_fails fault.NoMemory f all l depth count at m p q bs c n h b t = tt
tail_fails (fault.At i d) f all l depth count at m p q bs c n h b t = rw (h, b, t) refl

pub node_is : (f : ℕ) (all : List Token) (l : Level) (depth count at m : ℕ) (p q z : Parts) (bs : Bodies Parts)
    (c n k : ℕ) → Heads all l count at p m
    → payload_bodies_at (bodies p.row) all (payload_block_at f all p.row depth) (free p)
    (count + 1) m ≡ Ok (((free q, bs), c), n) → by (slots_rule (tail p.row)) all q n ≡ Ok (free z, k)
    → payload_node_at f all l depth count at ≡ Ok ((tree at z bs, c), k)
unfolding payload_node_at payload_bodies_at payload_block_at
node_is f all l depth count at m p q z bs c n k h b t = rw (h, b, t) refl
