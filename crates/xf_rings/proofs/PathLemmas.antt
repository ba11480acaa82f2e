-- What a path is after a number was taken out of its ring, or put in.
use Rattle.std.proofs.Common.{◌≡◌, ℕ, ◌<◌, List, [], ◌∷◌, length, slice_index, slice_set, sym, ◌∙◌, ap, arith}
use Rattle.std.proofs.lemmas.List.{get_or-set_same, get_or-set_other, length-set}
use Rattle.xf_rings.specs.Ring.{Path, linked, unlinked, After}
use Rattle.xf_rings.specs.Groups.{Lacks}

-- all numbers are below a size
abbrev pub Below : ℕ → List ℕ → Type 0
Below n [] = Unit {0}
Below n (x ∷ xs) = (x < n) × Below n xs

pub unlinked_other : (next : List ℕ) (p e x : ℕ) → (x ≡ p → ⊥) → (x ≡ e → ⊥)
    → slice_index (unlinked p e next) x ≡ slice_index next x
unlinked_other next p e x n m = get_or-set_other (slice_set next p (slice_index next e)) e x e 0 m
    ∙ get_or-set_other next p x (slice_index next e) 0 n

pub unlinked_before : (next : List ℕ) (p e : ℕ) → p < length next → (p ≡ e → ⊥)
    → slice_index (unlinked p e next) p ≡ slice_index next e
unlinked_before next p e h m = get_or-set_other (slice_set next p (slice_index next e)) e p e 0 m
    ∙ get_or-set_same next p (slice_index next e) 0 h

-- a path that e is not on
pub path_other : (next : List ℕ) (p e a : ℕ) (xs : List ℕ) (b : ℕ) → After next p e → Path next a xs b
    → (a ≡ e → ⊥) → Lacks e xs → (b ≡ e → ⊥) → Path (unlinked p e next) a xs b
path_other next p e a [] b w q na l nb =
    unlinked_other next p e a (λ i. nb (sym q ∙ ap (slice_index next) i ∙ w.is)) na ∙ q
path_other next p e a (x ∷ xs) b w q na l nb = (
  unlinked_other next p e a (λ i. l.0 (sym q.0 ∙ ap (slice_index next) i ∙ w.is)) na ∙ q.0,
  path_other next p e x xs b w q.1 l.0 l.1 nb,
)

-- from p, what came after e
pub path_joined : (next : List ℕ) (p e : ℕ) (xs : List ℕ) (b : ℕ) → After next p e → Path next e xs b → (p ≡ e → ⊥)
    → Lacks e xs → (b ≡ e → ⊥) → Path (unlinked p e next) p xs b
path_joined next p e [] b w q np l nb = unlinked_before next p e w.in_p np ∙ q
path_joined next p e (x ∷ xs) b w q np l nb =
    (unlinked_before next p e w.in_p np ∙ q.0, path_other next p e x xs b w q.1 l.0 l.1 nb)

pub linked_other : (next : List ℕ) (b e x : ℕ) → (x ≡ b → ⊥) → (x ≡ e → ⊥)
    → slice_index (linked b e next) x ≡ slice_index next x
linked_other next b e x n m = get_or-set_other (slice_set next e (slice_index next b)) b x e 0 n
    ∙ get_or-set_other next e x (slice_index next b) 0 m

pub linked_at : (next : List ℕ) (b e : ℕ) → b < length next → slice_index (linked b e next) b ≡ e
linked_at next b e h = get_or-set_same (slice_set next e (slice_index next b)) b e 0
    (omega (arith, length-set next e (slice_index next b)))

pub linked_after : (next : List ℕ) (b e : ℕ) → e < length next → (e ≡ b → ⊥)
    → slice_index (linked b e next) e ≡ slice_index next b
linked_after next b e h n = get_or-set_other (slice_set next e (slice_index next b)) b e e 0 n
    ∙ get_or-set_same next e (slice_index next b) 0 h

-- a path that has neither
pub path_beside : (next : List ℕ) (d e a : ℕ) (xs : List ℕ) (b : ℕ) → Path next a xs b → (a ≡ d → ⊥) → (a ≡ e → ⊥)
    → Lacks d xs → Lacks e xs → Path (linked d e next) a xs b
path_beside next d e a [] b q nd ne ld le = linked_other next d e a nd ne ∙ q
path_beside next d e a (x ∷ xs) b q nd ne ld le =
    (linked_other next d e a nd ne ∙ q.0, path_beside next d e x xs b q.1 ld.0 le.0 ld.1 le.1)

-- from e, what came after d
pub path_put : (next : List ℕ) (d e : ℕ) (xs : List ℕ) (b : ℕ) → d < length next → e < length next → (e ≡ d → ⊥)
    → Path next d xs b → Lacks d xs → Lacks e xs → Path (linked d e next) d (e ∷ xs) b
path_put next d e [] b hd he n q ld le = (linked_at next d e hd, linked_after next d e he n ∙ q)
path_put next d e (x ∷ xs) b hd he n q ld le =
    (linked_at next d e hd, (linked_after next d e he n ∙ q.0, path_beside next d e x xs b q.1 ld.0 le.0 ld.1 le.1))
