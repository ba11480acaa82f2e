-- Tensors as lists in row-major order and as functions of indices.
use Rattle.std.proofs.Common.{◌≡◌, ℕ, zero, suc, ◌+◌, ◌-◌, ◌*◌, ◌/◌, ◌%◌, ◌<◌, ◌≤◌, List, [], ◌∷◌, ◌++◌, refl, sym, ap}
use Rattle.std.proofs.Common.{◌∙◌, subst, arith}
use Rattle.std.specs.Prelude.{map, flat_map, length, get_or}
use Rattle.std.proofs.lemmas.Grind.{common_steps}
use Rattle.std.proofs.lemmas.List.{length-append, length-map, get_or_append_left, get_or-append_right, map-append}
use Rattle.xf_points.specs.Points.{Point, Each, Below, product, counted, points, place, point_at, listed, element}
use Rattle.xf_points.proofs.Lists.{counted_split, counted_from}
use Rattle.xf_points.proofs.Sets.{points_below}

-- ---- numbers of rows

pub length_counted : (n k : ℕ) → length (counted k n) ≡ n
length_counted zero k = refl
length_counted (suc n) k = ap suc (length_counted n (k + 1))

rows_length : (ps : List Point) (is : List ℕ) → length (flat_map (λ i. map (λ p. i ∷ p) ps) is) ≡ length is * length ps
rows_length ps [] = omega arith
rows_length ps (i ∷ is) =
    let a = length-append (map (λ p. i ∷ p) ps) (flat_map (λ i. map (λ p. i ∷ p) ps) is) in
    let b = length-map ps (λ p. i ∷ p) in
    let c = rows_length ps is in
    let d : suc (length is) * length ps ≡ length ps + length is * length ps = omega arith in
    a ∙ omega (arith, b, c, d)

pub length_points : (es : List ℕ) → length (points es) ≡ product es
length_points [] = refl
length_points (e ∷ es) =
    rows_length (points es) (counted 0 e) ∙ ap (λ n. n * length (points es)) (length_counted e 0)
    ∙ ap (λ n. e * n) (length_points es)

pub length_listed : {A : Type 0} (shape : List ℕ) (f : Point → A) → length (listed shape f) ≡ product shape
length_listed shape f = length-map (points shape) f ∙ length_points shape

-- ---- the element at an index

get_row : {A : Type 0} (f : Point → A) (none : A) (ps : List Point) (n k i r : ℕ) → i < n → r < length ps
    → get_or (map f (flat_map (λ i. map (λ p. i ∷ p) ps) (counted k n))) (i * length ps + r) none
    ≡ get_or (map (λ p. f ((k + i) ∷ p)) ps) r none
get_row f none ps zero k i r h l = (let no : ⊥ = omega (arith, h) in absurd no)
get_row f none ps (suc n) k zero r h l =
    let m : length (map f (map (λ p. k ∷ p) ps)) ≡ length ps = length-map (map (λ p. k ∷ p) ps) f
    ∙ length-map ps (λ p. k ∷ p) in
    let z : 0 * length ps + r ≡ r = omega arith in
    let y : k + 0 ≡ k = omega arith in
    ap (λ xs. get_or xs (0 * length ps + r) none)
    (map-append f (map (λ p. k ∷ p) ps) (flat_map (λ i. map (λ p. i ∷ p) ps) (counted (k + 1) n)))
    ∙ ap (λ q. get_or
    (map f (map (λ p. k ∷ p) ps) ++ map f (flat_map (λ i. map (λ p. i ∷ p) ps) (counted (k + 1) n))) q none) z
    ∙ get_or_append_left (map f (map (λ p. k ∷ p) ps))
    (map f (flat_map (λ i. map (λ p. i ∷ p) ps) (counted (k + 1) n))) none r (omega (arith, m, l))
    ∙ ap (λ xs. get_or xs r none) (map_map ps)
    ∙ ap (λ q. get_or (map (λ p. f (q ∷ p)) ps) r none) (sym y)
  where
    map_map : (ps : List Point) → map f (map (λ p. k ∷ p) ps) ≡ map (λ p. f (k ∷ p)) ps
    map_map [] = refl
    map_map (p ∷ ps) = ap (λ xs. f (k ∷ p) ∷ xs) (map_map ps)
get_row f none ps (suc n) k (suc i) r h l =
    let m : length (map f (map (λ p. k ∷ p) ps)) ≡ length ps = length-map (map (λ p. k ∷ p) ps) f
    ∙ length-map ps (λ p. k ∷ p) in
    let a : suc i * length ps + r ≡ length ps + (i * length ps + r) = omega arith in
    let b : length ps ≤ suc i * length ps + r = omega (arith, a) in
    let c : suc i * length ps + r - length ps ≡ i * length ps + r = omega (arith, a) in
    let y : k + suc i ≡ k + 1 + i = omega arith in
    ap (λ xs. get_or xs (suc i * length ps + r) none)
    (map-append f (map (λ p. k ∷ p) ps) (flat_map (λ i. map (λ p. i ∷ p) ps) (counted (k + 1) n)))
    ∙ get_or-append_right (map f (map (λ p. k ∷ p) ps))
    (map f (flat_map (λ i. map (λ p. i ∷ p) ps) (counted (k + 1) n))) (length ps) (suc i * length ps + r) none m b
    ∙ ap (λ q. get_or (map f (flat_map (λ i. map (λ p. i ∷ p) ps) (counted (k + 1) n))) q none) c
    ∙ get_row f none ps n (k + 1) i r (omega (arith, h)) l
    ∙ ap (λ q. get_or (map (λ p. f (q ∷ p)) ps) r none) (sym y)

pub place_below : (es : List ℕ) (p : Point) → Below p es → place es p < product es
place_below [] [] b = omega arith
place_below [] (i ∷ p) b = absurd b
place_below (e ∷ es) [] b = absurd b
place_below (e ∷ es) (i ∷ p) b =
    let r = place_below es p b.1 in
    let a : i * product es + product es ≤ e * product es = rows_fit i e (product es) b.0 in
    omega (arith, a, r)
  where
    rows_fit : (i e m : ℕ) → i < e → i * m + m ≤ e * m
    rows_fit i zero m h = (let no : ⊥ = omega (arith, h) in absurd no)
    rows_fit zero (suc e) m h = omega arith
    rows_fit (suc i) (suc e) m h = (let a = rows_fit i e m (omega (arith, h)) in omega (arith, a))

pub element_listed : {A : Type 0} (none : A) (shape : List ℕ) (f : Point → A) (p : Point) → Below p shape
    → element none shape (listed shape f) p ≡ f p
element_listed none [] f [] b = refl
element_listed none [] f (i ∷ p) b = absurd b
element_listed none (e ∷ es) f [] b = absurd b
element_listed none (e ∷ es) f (i ∷ p) b =
    let l = length_points es in
    let r = place_below es p b.1 in
    ap (λ m. get_or (listed (e ∷ es) f) (i * m + place es p) none) (sym l)
    ∙ get_row f none (points es) e 0 i (place es p) b.0 (omega (arith, l, r))
    ∙ element_listed none es (λ p. f ((0 + i) ∷ p)) p b.1
    ∙ (let z : 0 + i ≡ i = omega arith in ap (λ q. f (q ∷ p)) z)

-- ---- lists that agree at each index

pub listed_same : {A : Type 0} (shape : List ℕ) (f g : Point → A) → ((p : Point) → Below p shape → f p ≡ g p)
    → listed shape f ≡ listed shape g
listed_same shape f g h = each_same (points shape) (points_below shape)
  where
    each_same : (ps : List Point) → Each (λ p. Below p shape) ps → map f ps ≡ map g ps
    each_same [] q = refl
    each_same (p ∷ ps) q = let a = h p q.0 in let b = each_same ps q.1 in cc

-- ---- a list of as many elements as the shape has is listed from its elements

places_rows : (m : ℕ) (f : Point → ℕ) (ps : List Point) → map f ps ≡ counted 0 m → (n k : ℕ) → (g : Point → ℕ)
    → ((i : ℕ) (p : Point) → g (i ∷ p) ≡ i * m + f p)
    → map g (flat_map (λ i. map (λ p. i ∷ p) ps) (counted k n)) ≡ counted (k * m) (n * m)
places_rows m f ps h zero k g e = (let a : 0 * m ≡ 0 = omega arith in rw a refl)
places_rows m f ps h (suc n) k g e =
    let a : suc n * m ≡ m + n * m = omega arith in
    let b : (k + 1) * m ≡ k * m + m = omega arith in
    let c : k * m + 0 ≡ k * m = omega arith in
    map-append g (map (λ p. k ∷ p) ps) (flat_map (λ i. map (λ p. i ∷ p) ps) (counted (k + 1) n))
    ∙ ap (λ xs. xs ++ map g (flat_map (λ i. map (λ p. i ∷ p) ps) (counted (k + 1) n)))
    (one ps ∙ ap (map (λ j. k * m + j)) h ∙ sym (counted_from (k * m) 0 m) ∙ ap (λ q. counted q m) c)
    ∙ ap (λ xs. counted (k * m) m ++ xs) (places_rows m f ps h n (k + 1) g e ∙ ap (λ q. counted q (n * m)) b)
    ∙ sym (counted_split (k * m) m (n * m))
    ∙ ap (counted (k * m)) (sym a)
  where
    one : (ps : List Point) → map g (map (λ p. k ∷ p) ps) ≡ map (λ j. k * m + j) (map f ps)
    one [] = refl
    one (p ∷ ps) = let a = e k p in let b = one ps in cc

pub places_counted : (shape : List ℕ) → map (place shape) (points shape) ≡ counted 0 (product shape)
places_counted [] = refl
places_counted (e ∷ es) =
    places_rows (product es) (place es) (points es) (places_counted es) e 0 (place (e ∷ es)) (λ i p. refl)
    ∙ (let z : 0 * product es ≡ 0 = omega arith in ap (λ q. counted q (e * product es)) z)

pub get_counted : {A : Type 0} (none : A) (xs ys : List A)
    → map (λ k. get_or (ys ++ xs) k none) (counted (length ys) (length xs)) ≡ xs
get_counted none [] ys = refl
get_counted none (x ∷ xs) ys =
    let a : get_or (ys ++ x ∷ xs) (length ys) none ≡ x = first ys in
    let b : length (ys ++ x ∷ []) ≡ length ys + 1 = length-append ys (x ∷ []) in
    let c : (ys ++ x ∷ []) ++ xs ≡ ys ++ x ∷ xs = join ys in
    let d = get_counted none xs (ys ++ x ∷ []) in
    let e : map (λ k. get_or (ys ++ x ∷ xs) k none) (counted (length ys + 1) (length xs))
    ≡ xs =
    subst (λ n. map (λ k. get_or (ys ++ x ∷ xs) k none) (counted n (length xs)) ≡ xs) b
    (subst (λ zs. map (λ k. get_or zs k none) (counted (length (ys ++ x ∷ [])) (length xs)) ≡ xs) c d) in
    cc
  where
    first : (ys : List _) → get_or (ys ++ x ∷ xs) (length ys) none ≡ x
    first [] = refl
    first (y ∷ ys) = first ys

    join : (ys : List _) → (ys ++ x ∷ []) ++ xs ≡ ys ++ x ∷ xs
    join [] = refl
    join (y ∷ ys) = ap (λ zs. y ∷ zs) (join ys)

pub listed_element : {A : Type 0} (none : A) (shape : List ℕ) (elems : List A) → length elems ≡ product shape
    → listed shape (element none shape elems) ≡ elems
listed_element none shape elems h =
    map_map (points shape)
    ∙ ap (map (λ k. get_or elems k none)) (places_counted shape ∙ ap (counted 0) (sym h))
    ∙ get_counted none elems []
  where
    map_map : (ps : List Point) → map (λ p. get_or elems (place shape p) none) ps
        ≡ map (λ k. get_or elems k none) (map (place shape) ps)
    map_map [] = refl
    map_map (p ∷ ps) = ap (λ xs. get_or elems (place shape p) none ∷ xs) (map_map ps)

-- ---- counters: the points one after another, by their numbers

get_map : {A B : Type 0} (f : A → B) (xs : List A) (k : ℕ) (none : A) → k < length xs → get_or (map f xs) k (f none)
    ≡ f (get_or xs k none)
get_map f [] k none h = refl
get_map f (x ∷ xs) zero none h = refl
get_map f (x ∷ xs) (suc k) none h = get_map f xs k none (omega (arith, h))

in_range : {A : Type 0} (xs : List A) (k : ℕ) (none none' : A) → k < length xs → get_or xs k none ≡ get_or xs k none'
in_range [] k none none' h = (let no : ⊥ = omega (arith, h) in absurd no)
in_range (x ∷ xs) zero none none' h = refl
in_range (x ∷ xs) (suc k) none none' h = in_range xs k none none' (omega (arith, h))

row_of : (k e m : ℕ) → k < e * m → (k / m < e) × ((k % m < m) × (k / m * m + k % m ≡ k))
row_of k e zero h = (let no : ⊥ = omega (arith, h) in absurd no)
row_of k e (suc m) h = (grind (arith, common_steps), (grind (arith, common_steps), grind (arith, common_steps)))

map_self : {A : Type 0} (xs : List A) → map (λ x. x) xs ≡ xs
map_self [] = refl
map_self (x ∷ xs) = ap (λ ys. x ∷ ys) (map_self xs)

pub get_points : (es : List ℕ) (k : ℕ) → k < product es → get_or (points es) k [] ≡ point_at es k
get_points [] zero h = refl
get_points [] (suc k) h = (let no : ⊥ = omega (arith, h) in absurd no)
get_points (e ∷ es) k h =
    let m = product es in
    let q = row_of k e m h in
    let l = length_points es in
    let r : k % m < length (points es) = omega (arith, l, q.1.0) in
    let at_row : k / m * length (points es) + k % m ≡ k = ap (λ n. k / m * n + k % m) l ∙ q.1.1 in
    let z : 0 + k / m ≡ k / m = omega arith in
    ap (λ n. get_or (points (e ∷ es)) n []) (sym at_row)
    ∙ ap (λ xs. get_or xs (k / m * length (points es) + k % m) []) (sym (map_self (points (e ∷ es))))
    ∙ get_row (λ p. p) [] (points es) e 0 (k / m) (k % m) q.0 r
    ∙ in_range (map (λ p. (0 + k / m) ∷ p) (points es)) (k % m) [] ((0 + k / m) ∷ [])
    (rw (length-map (points es) (λ p. (0 + k / m) ∷ p)) r)
    ∙ get_map (λ p. (0 + k / m) ∷ p) (points es) (k % m) [] r
    ∙ ap (λ p. (0 + k / m) ∷ p) (get_points es (k % m) q.1.0)
    ∙ ap (λ i. i ∷ point_at es (k % m)) z

pub place_at : (es : List ℕ) (k : ℕ) → k < product es → place es (point_at es k) ≡ k
place_at [] k h = omega (arith, h)
place_at (e ∷ es) k h =
    (let q = row_of k e (product es) h in let r = place_at es (k % product es) q.1.0 in omega (arith, r, q.1.1))
