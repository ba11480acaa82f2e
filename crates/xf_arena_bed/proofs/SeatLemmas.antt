-- The names in slots, after a change of one slot.
use Rattle.std.proofs.Common.{◌≡◌, ℕ, ◌<◌, length, slice_set, sym, ◌∙◌, ap}
use Rattle.std.specs.Prelude.{map, Option, Some, None}
use Rattle.std.proofs.lemmas.List.{get_or-set_same, get_or-set_other, length-set, length-map}
use Rattle.xf_arena_bed.specs.declared.bed.Bed.TheInside.{Inside}
use Rattle.xf_arena_bed.specs.declared.node.Node.{Node}
use Rattle.xf_arena_bed.specs.declared.node.OpId.{OpId}
use Rattle.xf_arena_bed.specs.Value.{Layout, seat_at}
use Rattle.xf_arena_bed.specs.Seat.{seat_of}
use Rattle.xf_arena_bed.specs.Live.{name_of, IsLive}
use Rattle.xf_arena_bed.specs.Sits.{Nodes, node_at}
use Rattle.xf_arena_bed.specs.View.{layout_of}
use Rattle.xf_arena_bed.proofs.CloseLemmas.{seat_is}

pub seat_put : (nodes : Nodes) (s : ℕ) (x : Node) → s < length nodes
    → seat_at (map seat_of (slice_set nodes s (Some x))) s ≡ Some x.name
seat_put nodes s x l = seat_is (slice_set nodes s (Some x)) s ∙ ap seat_of (get_or-set_same nodes s (Some x) None l)

pub seat_kept : (nodes : Nodes) (s i : ℕ) (y : Option Node) → (i ≡ s → ⊥)
    → seat_at (map seat_of (slice_set nodes s y)) i ≡ seat_at (map seat_of nodes) i
seat_kept nodes s i y n =
    seat_is (slice_set nodes s y) i ∙ ap seat_of (get_or-set_other nodes s i y None n) ∙ sym (seat_is nodes i)

pub seats_put : (a : Inside) (v : Layout) (s : ℕ) (x : Node) (id : OpId) → layout_of a ≡ v
    → node_at a.nodes.items s ≡ None → IsLive v id
    → seat_at (map seat_of (slice_set a.nodes.items s (Some x))) id.slot ≡ Some (name_of id)
seats_put a v s x id e f l =
    let was : seat_at (map seat_of a.nodes.items) id.slot ≡ Some (name_of id) =
    ap (λ (m : Layout). seat_at m.seats id.slot) e ∙ l
    in
    let other : id.slot ≡ s → ⊥ = λ q.
    let z : None ≡ Some (name_of id) = sym (seat_is a.nodes.items id.slot ∙ rw q (ap seat_of f)) ∙ was in cc
    in
    seat_kept a.nodes.items s id.slot (Some x) other ∙ was

pub seats_long : (a : Inside) (v : Layout) (s : ℕ) (y : Option Node) → layout_of a ≡ v
    → length (map seat_of (slice_set a.nodes.items s y)) ≡ length v.seats
seats_long a v s y e =
    length-map (slice_set a.nodes.items s y) seat_of ∙ length-set a.nodes.items s y
    ∙ sym (length-map a.nodes.items seat_of) ∙ ap (λ (m : Layout). length m.seats) e
