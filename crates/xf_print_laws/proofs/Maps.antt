-- Maps: their dimensions in order, and the dimensions that they give, which are different ones of them.
use Rattle.std.proofs.Common.{◌≡◌, ℕ, zero, suc, ◌+◌, ◌^◌, ◌<◌, ◌≤◌, Bool, true, false, List, [], ◌∷◌, ◌++◌, length}
use Rattle.std.proofs.Common.{Some, refl, sym, ap, subst, ◌∙◌, arith, append_assoc, append-nil, length-append}
use Rattle.std.specs.Prelude.{map, not, nat_lt, ◌==◌, ◌||◌, codes, ◌%◌, ◌/◌, ◌-◌}
use Rattle.std.specs.Fmt.{decimal}
use Rattle.std.proofs.lemmas.Bool.{lt-ltb, ltb-true}
use Rattle.std.proofs.lemmas.Bool.Decides.{nat_tests}
use Rattle.std.proofs.lemmas.Fmt.{decimal_by_steps}
use Rattle.xf_type.specs.declared.attribute.AffineMap.{AffineMap}
use Rattle.xf_type.specs.Bytes.{is_digit}
use Rattle.xf_type.specs.Limits.{most_entries}
use Rattle.xf_lex.specs.declared.token.TokenKind.TheVariants as token
use Rattle.xf_lex.proofs.Stays.{decimal_digits}
use Rattle.xf_shape.proofs.Passing.{all_pass}
use Rattle.xf_grammar.specs.Tokens.{Terminal, terminal, open_paren, close_paren, less}
use Rattle.xf_grammar.specs.Grammar.{act, nothing}
use Rattle.xf_grammar.proofs.Basics.{both_true, not_true}
use Rattle.xf_dense.specs.Nests.{close_bracket, close_angle}
use Rattle.xf_format.specs.declared.expected.Expected.TheVariants as due
use Rattle.xf_format.specs.declared.list.Item.TheVariants as item
use Rattle.xf_format.specs.Actions.{map_is}
use Rattle.xf_format.specs.Parts.{Said, written_map, no_map, widened, giving, says_map}
use Rattle.xf_format.specs.Rules.{kind_rule, dimension_rule, given_rule, map_rule, map_form_rule, maps_rule}
use Rattle.xf_format.specs.Tests.{gives}
use Rattle.xf_format.specs.Words.{dimension_of, leads}
use Rattle.xf_ir.specs.Lists.{Each, every}
use Rattle.xf_ir.specs.RuleLinalg.{is_number_among, numbers_once}
use Rattle.xf_printed.specs.Fills.{until_fill}
use Rattle.xf_printed.specs.Structured.{dimension_fill, dimensions, map_form_fill, map_fill}
use Rattle.xf_printed.specs.Words.{dimension_text}
use Rattle.xf_print_laws.proofs.Goes.{Goes, Items, both_go, peek_goes, take_goes, silent_goes}
use Rattle.xf_print_laws.proofs.Goes.{need_goes, add_maps, few_maps, room, so_said, paren_ends, bracket_ends}
use Rattle.xf_print_laws.proofs.Goes.{until_goes, until_by}
use Rattle.xf_print_laws.proofs.LayoutTokens.{word_lexes, mark_lexes, dimension_lexes}
use Rattle.xf_print_laws.proofs.Lists.{arrow_lexes}
use Rattle.xf_print_laws.proofs.Needs.{MapFits}
use Rattle.xf_print_laws.proofs.Signed.{number_is}

-- ---- the name of a dimension

-- no 0 stands before the digits of a number above 0
abbrev first_counts : List ℕ → Bool
first_counts [] = false
first_counts (b ∷ bs) = not (b == 48)

abbrev Leads : ℕ → List ℕ → Type 0
Leads n ds = (leads ds ≡ true) × (0 < n → first_counts ds ≡ true)

one_leads : (n : ℕ) → n < 10 → Leads n ((48 + n) ∷ [])
one_leads n lt = (refl, λ p. grind (arith, nat_tests))

first_more : (ds : List ℕ) (b : ℕ) → first_counts ds ≡ true → leads (ds ++ b ∷ []) ≡ true
first_more [] b e = absurd cc
first_more (a ∷ []) b e = e
first_more (a ∷ c ∷ ds) b e = e

still_counts : (ds : List ℕ) (b : ℕ) → first_counts ds ≡ true → first_counts (ds ++ b ∷ []) ≡ true
still_counts [] b e = absurd cc
still_counts (a ∷ ds) b e = e

more_lead : (n : ℕ) (ds : List ℕ) → 10 ≤ n → Leads (n / 10) ds → Leads n (ds ++ (48 + n % 10) ∷ [])
more_lead n ds le h =
    let f = h.1 (omega arith) in (first_more ds (48 + n % 10) f, λ p. still_counts ds (48 + n % 10) f)

decimal_leads : (n : ℕ) → n < 2 ^ 64 → leads (decimal n) ≡ true
decimal_leads n lt = (decimal_by_steps Leads one_leads more_lead n lt).0

pub dimension_is : (k : ℕ) → k < 2 ^ 64 → dimension_of (dimension_text k) ≡ Some k
dimension_is k lt =
    let d = all_pass is_digit (decimal k) (decimal_digits k lt).all in
    let l = decimal_leads k lt in
    let n = number_is k lt in
    rw (d, l, n) refl

-- ---- the dimensions of a map

-- so many more, and those that it gives
abbrev with_dims : List ℕ → Said → Said
with_dims ks d = says_map (record d.map { dims = d.map.dims + length ks }) d

abbrev with_given : List ℕ → Said → Said
with_given ks d = says_map (record d.map { results = d.map.results ++ ks }) d

abbrev DimsFit : Said → List ℕ → Type 0
DimsFit d ks = (ks ≡ dimensions d.map.dims (length ks)) × (d.map.dims + length ks < 2 ^ 32)

abbrev head_or : ℕ → List ℕ → ℕ
head_or k [] = k
head_or k (x ∷ xs) = x

abbrev tail_of : List ℕ → List ℕ
tail_of [] = []
tail_of (x ∷ xs) = xs

dimension_goes : (k : ℕ) (y : Terminal) (d : Said) → k ≡ d.map.dims → k < 2 ^ 32 - 1
    → Goes dimension_rule (dimension_fill k) y d (says_map (widened d.map) d)
unfolding dimension_rule
dimension_goes k y d e lt =
    let i = dimension_is k (omega arith) in
    let r = lt-ltb d.map.dims most_entries (omega (arith, e, lt)) in
    let same : (k == d.map.dims) ≡ true = grind (arith, nat_tests, e) in
    record {
      fit = λ s. rw (i, same, r) refl;
      say = refl;
      few = λ s. s;
      lex = (dimension_lexes k (omega arith), tt);
    }

one_dim : (k : ℕ) (ks : List ℕ) (y : Terminal) (d : Said) → DimsFit d (k ∷ ks)
    → Goes dimension_rule (dimension_fill k) y d (with_dims (k ∷ []) d)
one_dim k ks y d h = dimension_goes k y d (ap (head_or k) h.0) (omega (arith, h.1, ap (head_or k) h.0))

later_dims : (k : ℕ) (ks : List ℕ) (d : Said) → DimsFit d (k ∷ ks) → DimsFit (with_dims (k ∷ []) d) ks
later_dims k ks d h =
    let s : suc d.map.dims ≡ d.map.dims + 1 = omega arith in
    (ap tail_of h.0 ∙ ap (λ n. dimensions n (length ks)) s, omega (arith, h.1))

dim_items : Items dimension_rule dimension_fill with_dims DimsFit (λ y. true)
unfolding dimension_rule
dim_items = record {
  one = λ k ks y d h e. one_dim k ks y d h;
  later = later_dims;
  begins = λ k ks y d h. refl;
  none = λ d. (let e : d.map.dims ≡ d.map.dims + 0 = omega arith in
      ap (λ n. says_map (record d.map { dims = n }) d) e);
  more = λ k ks d h. (let e : d.map.dims + 1 + length ks ≡ d.map.dims + suc (length ks) = omega arith in
      ap (λ n. says_map (record d.map { dims = n }) d) e);
  behind = refl;
}

-- ---- those that it gives

pub record GivenFit (d : Said) (ks : List ℕ) : Type 0 where
  below : every (λ k. nat_lt k d.map.dims) ks ≡ true
  fresh : Each (λ k. gives d.map.results k ≡ false) ks
  once : numbers_once ks ≡ true
  dims : d.map.dims < 2 ^ 32
  few : length d.map.results + length ks < 2 ^ 32

given_goes : (k : ℕ) (y : Terminal) (d : Said) → k < 2 ^ 32 → nat_lt k d.map.dims ≡ true
    → gives d.map.results k ≡ false → length d.map.results < 2 ^ 32 - 1
    → Goes given_rule (dimension_fill k) y d (says_map (giving k d.map) d)
unfolding given_rule
given_goes k y d lt below fresh few =
    let i = dimension_is k (omega arith) in
    let r = lt-ltb (length d.map.results) most_entries (omega (arith, few)) in
    record {
      fit = λ s. rw (i, below, fresh, r) refl;
      say = rw i refl;
      few = λ s. s;
      lex = (dimension_lexes k (omega arith), tt);
    }

one_given : (k : ℕ) (ks : List ℕ) (y : Terminal) (d : Said) → GivenFit d (k ∷ ks)
    → Goes given_rule (dimension_fill k) y d (with_given (k ∷ []) d)
one_given k ks y d h =
    let b = both_true (nat_lt k d.map.dims) _ h.below in
    let lt = ltb-true k d.map.dims b.0 in
    given_goes k y d (omega (arith, lt, h.dims)) b.0 h.fresh.0 (omega (arith, h.few))

other_dim : (j k : ℕ) → (j == k) ≡ false → (k == j) ≡ false
other_dim j k e = grind (arith, nat_tests, e)

or_false : (a b : Bool) → (a || b) ≡ false → (a ≡ false) × (b ≡ false)
or_false true b e = absurd cc
or_false false b e = (refl, e)

gives_more : (rs : List ℕ) (k j : ℕ) → gives rs j ≡ false → (k == j) ≡ false → gives (rs ++ k ∷ []) j ≡ false
gives_more [] k j e n = rw n refl
gives_more (r ∷ rs) k j e n =
    let p = or_false (r == j) _ e in
    let a = p.0 in
    rw a (gives_more rs k j p.1 n)

all_fresh : (rs : List ℕ) (k : ℕ) (ks : List ℕ) → Each (λ j. gives rs j ≡ false) ks → is_number_among k ks ≡ false
    → Each (λ j. gives (rs ++ k ∷ []) j ≡ false) ks
all_fresh rs k [] h e = tt
all_fresh rs k (j ∷ ks) h e =
    let p = or_false (j == k) _ e in
    (gives_more rs k j h.0 (other_dim j k p.0), all_fresh rs k ks h.1 p.1)

later_given : (k : ℕ) (ks : List ℕ) (d : Said) → GivenFit d (k ∷ ks) → GivenFit (with_given (k ∷ []) d) ks
later_given k ks d h =
    let o = both_true (not (is_number_among k ks)) _ h.once in
    record {
      below = (both_true (nat_lt k d.map.dims) _ h.below).1;
      fresh = all_fresh d.map.results k ks h.fresh.1 (not_true _ o.0);
      once = o.1;
      dims = h.dims;
      few = (let e = length-append d.map.results (k ∷ []) in omega (arith, h.few, e));
    }

given_items : Items given_rule dimension_fill with_given GivenFit (λ y. true)
unfolding given_rule
given_items = record {
  one = λ k ks y d h e. one_given k ks y d h;
  later = later_given;
  begins = λ k ks y d h. refl;
  none = λ d. ap (λ rs. says_map (record d.map { results = rs }) d) (sym (append-nil d.map.results));
  more = λ k ks d h. ap (λ rs. says_map (record d.map { results = rs }) d)
      (append_assoc d.map.results (k ∷ []) ks);
  behind = refl;
}

-- ---- a map

dims_count : (k n : ℕ) → length (dimensions k n) ≡ n
dims_count k zero = refl
dims_count k (suc n) = ap suc (dims_count (suc k) n)

none_given : (ks : List ℕ) → Each (λ k. gives [] k ≡ false) ks
none_given [] = tt
none_given (k ∷ ks) = (refl, none_given ks)

-- where no map is being read
abbrev unread : Said → Said
unread d = record d { map = no_map }

form_goes : (m : AffineMap) (y : Terminal) (d : Said) → MapFits m
    → Goes map_form_rule (map_form_fill m) y (unread d) (says_map m d)
unfolding map_form_rule kind_rule
form_goes m y d h =
    let count = dims_count 0 m.dims in
    let wide = says_map (record no_map { dims = m.dims }) d in
    let few = h.dims in
    let same : 0 + length (dimensions 0 m.dims) ≡ m.dims = omega (arith, count) in
    let dims = so_said (ap (λ n. says_map (record no_map { dims = n }) d) same)
    (until_goes item.Dimension close_paren due.Other dim_items (paren_ends refl) (dimensions 0 m.dims)
    (terminal token.Arrow []) (unread d) (ap (dimensions 0) (sym count), omega (arith, count, few))) in
    let given = until_goes item.Given close_paren due.AfterMapResult given_items (paren_ends refl) m.results
    (terminal close_angle []) wide (record {
      below = h.below;
      fresh = none_given m.results;
      once = h.once;
      dims = h.dims;
      few = omega (arith, h.few);
    }) in
    both_go (silent_goes false due.Other less (mark_lexes 60 refl) refl)
    (both_go (silent_goes false due.Other open_paren (mark_lexes 40 refl) refl)
    (both_go dims
    (both_go (silent_goes true due.AfterDimensions token.Arrow arrow_lexes refl)
    (both_go (silent_goes true due.Other open_paren (mark_lexes 40 refl) refl)
    (both_go given (silent_goes false due.Other close_angle (mark_lexes 62 refl) refl))))))

unread_goes : (m : AffineMap) (y : Terminal) (d : Said) → MapFits m
    → Goes map_rule (map_fill m) y (unread d) (add_maps (unread d) (written_map m ∷ []))
unfolding map_rule
unread_goes m y d h =
    let e = add_maps (unread d) (written_map m ∷ []) in
    let ends : Goes (act map_is) nothing y (says_map m d) e = record {
      fit = λ s. rw (room d.maps _ s.1.1.1.1.1.1.1.0) refl;
      say = refl;
      few = few_maps (unread d) (written_map m ∷ []);
      lex = tt;
    } in
    let form = form_goes m _ d h in
    peek_goes refl (need_goes (λ s. room d.maps _ s.1.1.1.1.1.1.1.0)
    (take_goes (word_lexes (codes "affine_map") refl) refl (both_go form ends)))

-- ---- several

abbrev pub with_maps : List AffineMap → Said → Said
with_maps ms d = add_maps d (map written_map ms)

abbrev MapsFit : Said → List AffineMap → Type 0
MapsFit d ms = (d.map ≡ no_map) × Each MapFits ms

map_goes : (m : AffineMap) (y : Terminal) (d : Said) → d.map ≡ no_map → MapFits m
    → Goes map_rule (map_fill m) y d (with_maps (m ∷ []) d)
map_goes m y d none h =
    let e : unread d ≡ d = λ i. record d { map = sym none i } in
    subst (λ z. Goes map_rule (map_fill m) y z (with_maps (m ∷ []) z)) e (unread_goes m y d h)

map_items : Items map_rule map_fill with_maps MapsFit (λ y. true)
unfolding map_rule
map_items = record {
  one = λ m ms y d h e. map_goes m y d h.0 h.1.0;
  later = λ m ms d h. (h.0, h.1.1);
  begins = λ m ms y d h. refl;
  none = λ d. ap (λ ms. record d { maps = ms }) (sym (append-nil d.maps));
  more = λ m ms d h. ap (λ ns. record d { maps = ns }) (append_assoc d.maps (written_map m ∷ []) (map written_map ms));
  behind = refl;
}

pub maps_go : (ms : List AffineMap) (y : Terminal) (d : Said) → d.map ≡ no_map → Each MapFits ms
    → Goes maps_rule (until_fill close_bracket map_fill ms) y d (with_maps ms d)
unfolding maps_rule
maps_go ms y d none h = until_by close_bracket due.Other map_items (bracket_ends refl) ms y d (none, h)
