-- What holds of what an action makes of the tokens that are held: of none of them, of the first ones, or of one and
-- perhaps another.
use Rattle.std.proofs.Common.{List, [], ◌∷◌, Option, Some, None}
use Rattle.std.specs.Prelude.{All}
use Rattle.std.proofs.lemmas.List.Elements.{All-nil, All-cons, All-head, All-tail}
use Rattle.xf_format.specs.Actions.{of_first, of_one_or_two, of_two, of_three}

-- of each token nothing need be known
abbrev pub Any : {B : Type 0} → B → Type 0
Any x = Unit {0}

pub all_any : {B : Type 0} (xs : List B) → All Any xs
all_any [] = All-nil Any
all_any (x ∷ xs) = All-cons Any x xs tt (all_any xs)

pub of_first_has : {B C : Type 0} (Q : B → Type 0) (P : C → Type 0) (c : C) (f : B → C) → P c
    → ((x : B) → Q x → P (f x)) → (hs : List B) → All Q hs → P (of_first hs c f)
of_first_has Q P c f p r [] q = p
of_first_has Q P c f p r (x ∷ xs) q = r x (All-head Q x xs q)

pub of_one_or_two_has : {B C : Type 0} (Q : B → Type 0) (P : C → Type 0) (c : C) (f : B → Option B → C) → P c
    → ((x : B) (k : Option B) → Q x → P (f x k)) → (hs : List B) → All Q hs → P (of_one_or_two hs c f)
of_one_or_two_has Q P c f p r [] q = p
of_one_or_two_has Q P c f p r (x ∷ []) q = r x None (All-head Q x [] q)
of_one_or_two_has Q P c f p r (x ∷ (y ∷ ys)) q = r x (Some y) (All-head Q x (y ∷ ys) q)

pub of_two_has : {B C : Type 0} (Q : B → Type 0) (P : C → Type 0) (c : C) (f : B → B → C) → P c
    → ((x y : B) → Q x → Q y → P (f x y)) → (hs : List B) → All Q hs → P (of_two hs c f)
of_two_has Q P c f p r [] q = p
of_two_has Q P c f p r (x ∷ []) q = p
of_two_has Q P c f p r (x ∷ (y ∷ ys)) q = r x y (All-head Q x (y ∷ ys) q) (All-head Q y ys (All-tail Q x (y ∷ ys) q))

pub of_three_has : {B C : Type 0} (Q : B → Type 0) (P : C → Type 0) (c : C) (f : B → B → B → C) → P c
    → ((x y z : B) → Q x → Q y → P (f x y z)) → (hs : List B) → All Q hs → P (of_three hs c f)
of_three_has Q P c f p r [] q = p
of_three_has Q P c f p r (x ∷ []) q = p
of_three_has Q P c f p r (x ∷ (y ∷ [])) q = p
of_three_has Q P c f p r (x ∷ (y ∷ (z ∷ zs))) q =
    r x y z (All-head Q x (y ∷ (z ∷ zs)) q) (All-head Q y (z ∷ zs) (All-tail Q x (y ∷ (z ∷ zs)) q))
