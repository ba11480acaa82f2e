-- A filling that fits a rule behind what is said: what is said then, and that its tokens are ones that the lexer reads
-- as themselves. One rule behind the other, and lists of items.
use Rattle.std.proofs.Common.{◌≡◌, ℕ, ◌^◌, ◌<◌, Bool, true, false, List, [], ◌∷◌, ◌++◌, length, refl, sym, subst}
use Rattle.std.proofs.Common.{◌∙◌, arith, length-append}
use Rattle.std.specs.Prelude.{not, nat_lt, ◌&&◌}
use Rattle.std.proofs.lemmas.Bool.{lt-ltb}
use Rattle.xf_type.specs.declared.payload_type.PayloadType.{PayloadType}
use Rattle.xf_type.specs.Limits.{most_entries}
use Rattle.xf_lex.specs.declared.token.TokenKind.{TokenKind}
use Rattle.xf_grammar.specs.Apart.{IsLexeme, FillLexes}
use Rattle.xf_grammar.specs.Tokens.{Terminal, terminal, is_kind, comma, close_paren, close_brace}
use Rattle.xf_grammar.specs.Grammar.{skip, take, peek, need, both, listed, Spaced, tokens_of, Fill, nothing, yes}
use Rattle.xf_grammar.specs.Grammar.{here, other}
use Rattle.xf_grammar.specs.Grammar.{two, written, tokens, more_tokens, tells, fits, first_seen, more_written}
use Rattle.xf_grammar.specs.Grammar.{more_tells, more_fits}
use Rattle.xf_grammar.proofs.Basics.{and_is, both_true}
use Rattle.xf_format.specs.declared.expected.Expected.{Expected}
use Rattle.xf_format.specs.declared.list.Item.{Item}
use Rattle.xf_format.specs.Actions.{Action, free_said, space}
use Rattle.xf_format.specs.Parts.{EntrySaid, UseSaid, PlaceSaid, MapSaid, Said}
use Rattle.xf_format.specs.declared.row.Side.{Side}
use Rattle.xf_format.specs.declared.row.Side.TheVariants.{Offsets, Sizes}
use Rattle.xf_ir.specs.declared.kind.IteratorKind.{IteratorKind}
use Rattle.xf_dense.specs.Nests.{close_bracket}
use Rattle.xf_format.specs.Rules.{Rule, language, kind_rule, item_rule, until_rule}
use Rattle.xf_format.specs.Tests.{Test, allows, of_kind}
use Rattle.xf_ir.specs.Lists.{Each}
use Rattle.xf_printed.specs.Fills.{mark_fill, more_fill, list_fill, until_fill}
use Rattle.xf_print_laws.proofs.LayoutTokens.{mark_lexes}
use Rattle.std.proofs.Common.{inl, inr}
use Rattle.std.specs.Prelude.{◌==◌, ◌||◌}
use Rattle.std.proofs.lemmas.Bool.{or_cases, eqb-true}
use Rattle.xf_lex.specs.declared.token.TokenKind.TheVariants as token

-- ---- what is said, with more entries in its lists

abbrev pub add_entries : Said → List EntrySaid → Said
add_entries d xs = record d { entries = d.entries ++ xs }

abbrev pub add_args : Said → List (List ℕ) → Said
add_args d xs = record d { args = d.args ++ xs }

abbrev pub add_uses : Said → List UseSaid → Said
add_uses d xs = record d { uses = d.uses ++ xs }

abbrev pub add_types : Said → List PayloadType → Said
add_types d xs = record d { types = d.types ++ xs }

abbrev pub add_results : Said → List PayloadType → Said
add_results d xs = record d { results = d.results ++ xs }

abbrev pub add_places : Side → Said → List PlaceSaid → Said
add_places Offsets d xs = record d { offsets = d.offsets ++ xs }
add_places Sizes d xs = record d { sizes = d.sizes ++ xs }

abbrev pub add_maps : Said → List MapSaid → Said
add_maps d xs = record d { maps = d.maps ++ xs }

abbrev pub add_iterators : Said → List IteratorKind → Said
add_iterators d xs = record d { iterators = d.iterators ++ xs }

-- none of these lists has 2 ^ 32 entries
abbrev pub FewPlaces : Said → Type 0
FewPlaces d =
    (length d.offsets < 2 ^ 32)
    × ((length d.sizes < 2 ^ 32) × ((length d.maps < 2 ^ 32) × (length d.iterators < 2 ^ 32)))

abbrev pub FewSaid : Said → Type 0
FewSaid d =
    (length d.entries < 2 ^ 32)
    × ((length d.args < 2 ^ 32)
    × ((length d.uses < 2 ^ 32) × ((length d.types < 2 ^ 32) × ((length d.results < 2 ^ 32) × FewPlaces d))))

cut : {A : Type 0} (xs ys : List A) → length (xs ++ ys) < 2 ^ 32 → length xs < 2 ^ 32
cut xs ys few = let e = length-append xs ys in omega arith

pub few_entries : (d : Said) (xs : List EntrySaid) → FewSaid (add_entries d xs) → FewSaid d
few_entries d xs s = (cut d.entries xs s.0, s.1)

pub few_args : (d : Said) (xs : List (List ℕ)) → FewSaid (add_args d xs) → FewSaid d
few_args d xs s = (s.0, (cut d.args xs s.1.0, s.1.1))

pub few_uses : (d : Said) (xs : List UseSaid) → FewSaid (add_uses d xs) → FewSaid d
few_uses d xs s = (s.0, (s.1.0, (cut d.uses xs s.1.1.0, s.1.1.1)))

pub few_types : (d : Said) (xs : List PayloadType) → FewSaid (add_types d xs) → FewSaid d
few_types d xs s = (s.0, (s.1.0, (s.1.1.0, (cut d.types xs s.1.1.1.0, s.1.1.1.1))))

pub few_results : (d : Said) (xs : List PayloadType) → FewSaid (add_results d xs) → FewSaid d
few_results d xs s = (s.0, (s.1.0, (s.1.1.0, (s.1.1.1.0, (cut d.results xs s.1.1.1.1.0, s.1.1.1.1.1)))))

pub few_places : (side : Side) (d : Said) (xs : List PlaceSaid) → FewSaid (add_places side d xs) → FewSaid d
few_places Offsets d xs s =
    let p = s.1.1.1.1.1 in
    (s.0, (s.1.0, (s.1.1.0, (s.1.1.1.0, (s.1.1.1.1.0, (cut d.offsets xs p.0, p.1))))))
few_places Sizes d xs s =
    let p = s.1.1.1.1.1 in
    (s.0, (s.1.0, (s.1.1.0, (s.1.1.1.0, (s.1.1.1.1.0, (p.0, (cut d.sizes xs p.1.0, p.1.1)))))))

pub few_maps : (d : Said) (xs : List MapSaid) → FewSaid (add_maps d xs) → FewSaid d
few_maps d xs s =
    let p = s.1.1.1.1.1 in
    (s.0, (s.1.0, (s.1.1.0, (s.1.1.1.0, (s.1.1.1.1.0, (p.0, (p.1.0, (cut d.maps xs p.1.1.0, p.1.1.1))))))))

pub few_iterators : (d : Said) (xs : List IteratorKind) → FewSaid (add_iterators d xs) → FewSaid d
few_iterators d xs s =
    let p = s.1.1.1.1.1 in
    (s.0, (s.1.0, (s.1.1.0, (s.1.1.1.0, (s.1.1.1.1.0, (p.0, (p.1.0, (p.1.1.0, cut d.iterators xs p.1.1.1))))))))

-- where there are few with one more, there is room for it
pub room : {A : Type 0} (xs : List A) (x : A) → length (xs ++ x ∷ []) < 2 ^ 32 → nat_lt (length xs) most_entries ≡ true
room xs x few = let e = length-append xs (x ∷ []) in lt-ltb (length xs) most_entries (omega (arith, e, few))

-- ---- one filling, and one behind the other

-- behind d a filling fits before a token, and then e is said, where that has few entries
pub record Goes (g : Rule) (f : Fill) (y : Terminal) (d e : Said) : Type 0 where
  pub fit : FewSaid e → fits language g f y (free_said d) ≡ true
  pub say : tells language g f (free_said d) ≡ free_said e
  pub few : FewSaid e → FewSaid d
  pub lex : FillLexes f

pub skips : {y : Terminal} {d : Said} → Goes skip nothing y d d
skips = record { fit = λ s. refl; say = refl; few = λ s. s; lex = tt }

pub both_go : {g k : Rule} {f p : Fill} {y : Terminal} {d e s : Said}
    → Goes g f (first_seen (tokens language k p) y) d e → Goes k p y e s → Goes (both g k) (two f p) y d s
both_go a b = let e = a.say in
    record {
      fit = λ s. and_is _ _ (a.fit (b.few s)) (rw e (b.fit s));
      say = rw e b.say;
      few = λ s. a.few (b.few s);
      lex = (a.lex, b.lex);
    }

-- a token that is not held, and what follows it
pub take_goes : {gap : Bool} {test : Test} {x : Terminal} {on off : Rule} {f : Fill} {y : Terminal} {d e : Said}
    → IsLexeme x → allows test x (free_said d) ≡ true → Goes on f y d e
    → Goes (take gap false test on off) (yes x f) y d e
take_goes l a g = record { fit = λ s. and_is _ _ a (g.fit s); say = g.say; few = g.few; lex = (l, g.lex) }

-- the other way, before a token that does not pass the test
pub off_goes : {gap keep : Bool} {test : Test} {on off : Rule} {f : Fill} {y : Terminal} {d e : Said}
    → not (allows test (first_seen (tokens language off f) y) (free_said d)) ≡ true → Goes off f y d e
    → Goes (take gap keep test on off) (other f) y d e
off_goes a g = record { fit = λ s. and_is _ _ a (g.fit s); say = g.say; few = g.few; lex = g.lex }

pub peek_goes : {test : Test} {on off : Rule} {f : Fill} {y : Terminal} {d e : Said}
    → allows test (first_seen (tokens language on f) y) (free_said d) ≡ true → Goes on f y d e
    → Goes (peek test on off) (here f) y d e
peek_goes a g = record { fit = λ s. and_is _ _ a (g.fit s); say = g.say; few = g.few; lex = g.lex }

pub peek_off_goes : {test : Test} {on off : Rule} {f : Fill} {y : Terminal} {d e : Said}
    → not (allows test (first_seen (tokens language off f) y) (free_said d)) ≡ true → Goes off f y d e
    → Goes (peek test on off) (other f) y d e
peek_off_goes a g = record { fit = λ s. and_is _ _ a (g.fit s); say = g.say; few = g.few; lex = g.lex }

-- an entry for which there is room
pub need_goes : {k : Action} {on : Rule} {f : Fill} {y : Terminal} {d e : Said}
    → (FewSaid e → space k (free_said d) ≡ true) → Goes on f y d e → Goes (need k on) f y d e
need_goes r g = record { fit = λ s. and_is _ _ (r s) (g.fit s); say = g.say; few = g.few; lex = g.lex }

-- what is said, written in another way
pub so_said : {g : Rule} {f : Fill} {y : Terminal} {d e s : Said} → e ≡ s → Goes g f y d e → Goes g f y d s
so_said {g} {f} {y} {d} q a = subst (Goes g f y d) q a

-- a token that says nothing
pub silent_goes : (gap : Bool) (due : Expected) (k : TokenKind) {y : Terminal} {d : Said} → IsLexeme (terminal k [])
    → is_kind k (terminal k []) ≡ true → Goes (kind_rule gap due k) (mark_fill k) y d d
unfolding kind_rule
silent_goes gap due k l e = take_goes l e skips

-- ---- lists of items

-- the first token of one behind the other
pub seen_both : (ps qs : List Spaced) (y : Terminal)
    → first_seen (tokens_of (ps ++ qs)) y ≡ first_seen (tokens_of ps) (first_seen (tokens_of qs) y)
seen_both [] qs y = refl
seen_both (p ∷ ps) qs y = refl

-- no token that ends a list
abbrev pub begins_item : Terminal → Bool
begins_item y = not (is_kind close_paren y) && (not (is_kind close_brace y) && not (is_kind close_bracket y))

-- each item has the property, whatever is said
abbrev pub All : {A : Type 0} → (A → Type 0) → Said → List A → Type 0
All P d xs = Each P xs

-- an item fits before each token that may stand behind it, where it and those behind it are good behind what is said;
-- what items say
pub record Items {A : Type 0} (g : Rule) (fill : A → Fill) (put : List A → Said → Said)
    (Good : Said → List A → Type 0) (may : Terminal → Bool) : Type 0 where
  pub one : (x : A) (xs : List A) (y : Terminal) (d : Said) → Good d (x ∷ xs) → may y ≡ true
      → Goes g (fill x) y d (put (x ∷ []) d)
  pub later : (x : A) (xs : List A) (d : Said) → Good d (x ∷ xs) → Good (put (x ∷ []) d) xs
  pub begins : (x : A) (xs : List A) (y : Terminal) (d : Said) → Good d (x ∷ xs)
      → begins_item (first_seen (tokens language g (fill x)) y) ≡ true
  pub none : (d : Said) → d ≡ put [] d
  pub more : (x : A) (xs : List A) (d : Said) → Good d (x ∷ xs) → put xs (put (x ∷ []) d) ≡ put (x ∷ xs) d
  pub behind : may (terminal comma []) ≡ true

-- further items
record MoreGo (g : Rule) (r : Fill) (y : Terminal) (d e : Said) : Type 0 where
  fit : FewSaid e → more_fits (written language g) (tells language g) (fits language g) r y (free_said d) ≡ true
  say : more_tells (tells language g) r (free_said d) ≡ free_said e
  few : FewSaid e → FewSaid d
  lex : FillLexes r

module _ {A : Type 0} {g : Rule} {fill : A → Fill} {put : List A → Said → Said} {Good : Said → List A → Type 0}
    {may : Terminal → Bool} (items : Items g fill put Good may) where
  may_follow : (xs : List A) (y : Terminal) → may y ≡ true
      → may (first_seen (more_tokens language g (more_fill fill xs)) y) ≡ true
  may_follow [] y e = e
  may_follow (x ∷ xs) y e = items.behind

  step : (x : A) (xs : List A) (y : Terminal) (d : Said) → Good d (x ∷ xs) → may y ≡ true
      → MoreGo g (more_fill fill xs) y (put (x ∷ []) d) (put xs (put (x ∷ []) d))
      → Goes (listed g) (list_fill fill x xs) y d (put (x ∷ xs) d)
  step x xs y d h m b =
      let a = items.one x xs _ d h (may_follow xs y m) in
      let e = a.say in
      so_said (items.more x xs d h) (record {
        fit = λ s. and_is _ _ (a.fit (b.few s)) (rw e (b.fit s));
        say = rw e b.say;
        few = λ s. a.few (b.few s);
        lex = (a.lex, b.lex);
      })

  more_go : (xs : List A) (y : Terminal) (d : Said) → Good d xs → may y ≡ true → not (is_kind comma y) ≡ true
      → MoreGo g (more_fill fill xs) y d (put xs d)
  more_go [] y d h m c =
      subst (MoreGo g nothing y d) (items.none d) (record { fit = λ s. c; say = refl; few = λ s. s; lex = tt })
  more_go (x ∷ xs) y d h m c =
      let a = step x xs y d h m (more_go xs y (put (x ∷ []) d) (items.later x xs d h) m c) in
      record { fit = a.fit; say = a.say; few = a.few; lex = a.lex }

  -- items before a token that is no comma
  pub list_goes : (x : A) (xs : List A) (y : Terminal) (d : Said) → Good d (x ∷ xs) → may y ≡ true
      → not (is_kind comma y) ≡ true → Goes (listed g) (list_fill fill x xs) y d (put (x ∷ xs) d)
  list_goes x xs y d h m c = step x xs y d h m (more_go xs y (put (x ∷ []) d) (items.later x xs d h) m c)

-- a token that ends a list of items
pub record Ends (may : Terminal → Bool) (close : TokenKind) : Type 0 where
  pub own : is_kind close (terminal close []) ≡ true
  pub may_end : may (terminal close []) ≡ true
  pub comma : not (is_kind comma (terminal close [])) ≡ true
  pub lex : IsLexeme (terminal close [])
  pub apart : (y : Terminal) → begins_item y ≡ true → not (is_kind close y) ≡ true

pub paren_ends : {may : Terminal → Bool} → may (terminal close_paren []) ≡ true → Ends may close_paren
paren_ends e =
    record { own = refl; may_end = e; comma = refl; lex = mark_lexes 41 refl; apart = λ y b. (both_true _ _ b).0 }

pub brace_ends : {may : Terminal → Bool} → may (terminal close_brace []) ≡ true → Ends may close_brace
brace_ends e =
    record {
      own = refl;
      may_end = e;
      comma = refl;
      lex = mark_lexes 125 refl;
      apart = λ y b. (both_true _ _ (both_true _ _ b).1).0;
    }

pub bracket_ends : {may : Terminal → Bool} → may (terminal close_bracket []) ≡ true → Ends may close_bracket
bracket_ends e =
    record {
      own = refl;
      may_end = e;
      comma = refl;
      lex = mark_lexes 93 refl;
      apart = λ y b. (both_true _ _ (both_true _ _ b).1).1;
    }

-- ) or ]
pub list_ends : {may : Terminal → Bool} → may (terminal close_paren []) ≡ true
    → may (terminal close_bracket []) ≡ true → (b : ℕ) → ((b == 41) || (b == 93)) ≡ true → Ends may (token.Mark b)
list_ends {may} e f b h = elim (or_cases (b == 41) _ h) [
  | inl p ↦ subst (λ c. Ends may (token.Mark c)) (sym (eqb-true b 41 p)) (paren_ends e)
  | inr p ↦ subst (λ c. Ends may (token.Mark c)) (sym (eqb-true b 93 p)) (bracket_ends f)
]

-- items up to a token that ends them and begins none
pub until_by : {A : Type 0} {g : Rule} {fill : A → Fill} {put : List A → Said → Said} {Good : Said → List A → Type 0}
    {may : Terminal → Bool} (close : TokenKind) (due : Expected) → Items g fill put Good may
    → Ends may close → (xs : List A) (y : Terminal) (d : Said) → Good d xs
    → Goes (take false false (of_kind close) skip (both (listed g) (kind_rule false due close)))
    (until_fill close fill xs) y d (put xs d)
unfolding kind_rule
until_by close due items ends [] y d h = so_said (items.none d) (take_goes ends.lex ends.own skips)
until_by {g = g} {fill = fill} {put = put} close due items ends (x ∷ xs) y d h =
    let b : Goes (both (listed g) (kind_rule false due close))
    (two (list_fill fill x xs) (mark_fill close)) y d (put (x ∷ xs) d) =
    both_go (list_goes items x xs (terminal close []) d h ends.may_end ends.comma)
    (silent_goes false due close ends.lex ends.own) in
    let first = written language g (fill x) in
    let more = more_written (written language g) (more_fill fill xs) in
    let end = written language (kind_rule false due close) (mark_fill close) in
    let seen = seen_both (first ++ more) end y ∙ seen_both first more (first_seen (tokens_of end) y) in
    off_goes (rw seen (ends.apart _ (items.begins x xs _ d h))) b

pub until_goes : {A : Type 0} {fill : A → Fill} {put : List A → Said → Said} {Good : Said → List A → Type 0}
    {may : Terminal → Bool} (i : Item) (close : TokenKind) (due : Expected) → Items (item_rule i) fill put Good may
    → Ends may close → (xs : List A) (y : Terminal) (d : Said) → Good d xs
    → Goes (until_rule close due i) (until_fill close fill xs) y d (put xs d)
unfolding until_rule
until_goes i close due items ends xs y d h = until_by close due items ends xs y d h
