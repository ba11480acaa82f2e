-- What an operation writes for its head and the slots of its row fits them, and says what the operation is.
use Rattle.std.proofs.Common.{◌≡◌, ℕ, suc, ◌^◌, ◌<◌, ◌≤◌, true, false, List, [], ◌∷◌, length, Option, Some, None, refl}
use Rattle.std.proofs.Common.{sym, ap, ◌∙◌, arith, Bool, ◌++◌}
use Rattle.std.specs.Prelude.{not, map, codes, if◌then◌else◌, ◌&&◌}
use Rattle.std.proofs.lemmas.List.{length-map}
use Rattle.xf_type.specs.declared.payload_type.PayloadType.{PayloadType}
use Rattle.xf_grammar.specs.Tokens.{Terminal, terminal, is_kind, is_word, open_brace, close_brace}
use Rattle.xf_grammar.specs.Grammar.{tokens, first_seen, Gap, Spaced, written, begun as begun_with}
use Rattle.xf_grammar.proofs.Basics.{and_is, both_true, not_false}
use Rattle.xf_format.specs.Parts.{Said, count_of, nothing_said, says_row, says_define}
use Rattle.xf_format.specs.Rows.{slots, tail, words, has_operations}
use Rattle.xf_format.specs.Rules.{language, slots_rule, kind_rule, row_rule, defines_rule, head_rule}
use Rattle.xf_ir.specs.declared.kind.Attr.{Attr}
use Rattle.xf_ir.specs.declared.kind.Kind.{Kind}
use Rattle.xf_ir.specs.declared.kind.Kind.TheVariants as kind
use Rattle.xf_ir.specs.declared.name.OpName.{OpName}
use Rattle.xf_ir.specs.declared.name.ValueName.{ValueName}
use Rattle.xf_ir.specs.Kinds.{has_body, is_terminator, returned_types}
use Rattle.xf_ir.specs.Lists.{every}
use Rattle.xf_ir.specs.Tree.{Ops, Regions, Tree}
use Rattle.xf_printed.specs.Fills.{word_fill, head_fill, number_name}
use Rattle.xf_printed.specs.Names.{Names, first_args, number_of, first_of, type_of}
use Rattle.xf_print_laws.specs.Naming.{use_printed, arguments_printed, defines_printed}
use Rattle.xf_print_laws.specs.SaidPrinted.{row_of, head_by, head_printed, entry_printed, known_types, types_printed}
use Rattle.xf_print_laws.specs.SaidPrinted.{results_printed}
use Rattle.xf_print_laws.proofs.Goes.{FewSaid, Goes, so_said}
use Rattle.xf_print_laws.proofs.Needs.{counted, arguments_of, tree, Fits}
use Rattle.xf_print_laws.proofs.Numbers.{first_short}
use Rattle.xf_print_laws.proofs.SlotTable.{slots_say, offers, a_word, clear, apart}
use Rattle.xf_print_laws.proofs.Slots.{clear_seen, slots_go}
use Rattle.std.specs.Fmt.{decimal}
use Rattle.xf_lex.specs.declared.token.TokenKind.TheVariants as token
use Rattle.xf_grammar.specs.Tree.{begins, follow}
use Rattle.xf_format.specs.declared.row.Level.{Level}
use Rattle.xf_format.specs.declared.row.Level.TheVariants as level
use Rattle.xf_format.specs.declared.row.Row.{Row}
use Rattle.xf_format.specs.Actions.{free_said}
use Rattle.xf_format.specs.Words.{lookup, the_row, opens}
use Rattle.xf_print_laws.proofs.LayoutTokens.{number_lexes, integer_lexes, mark_lexes}
use Rattle.xf_print_laws.proofs.Single.{count_is}
use Rattle.xf_print_laws.proofs.Words.{row_lexes, another_word}
use Rattle.xf_print_laws.proofs.SlotTable.{filled, first_in}
use Rattle.std.proofs.Common.{zero}
use Rattle.xf_type.specs.declared.payload_type.PayloadType.TheVariants.{Tensor}
use Rattle.xf_print_laws.specs.SaidPrinted.{known_at}
use Rattle.xf_ir.specs.declared.kind.NamedKind.{NamedKind}
use Rattle.std.specs.Prelude.{◌-◌, ◌+◌, is_some, slice_get, take}
use Rattle.std.proofs.Common.{ap, append_assoc, length-append}
use Rattle.std.proofs.lemmas.Bool.{eqb-true}
use Rattle.std.proofs.lemmas.List.{map-append}
use Rattle.xf_type.specs.declared.attribute.AffineMap.{AffineMap}
use Rattle.xf_format.specs.Parts.{written_map}
use Rattle.xf_format.specs.Rows.{header}
use Rattle.xf_ir.specs.declared.kind.IteratorKind.{IteratorKind}
use Rattle.xf_ir.specs.declared.kind.SliceIndex.{SliceIndex}
use Rattle.xf_ir.specs.Kinds.{is_generic}
use Rattle.xf_ir.specs.Lists.{is_empty}
use Rattle.xf_ir.specs.RuleTypes.{open_count}
use Rattle.xf_printed.specs.Structured.{offsets_of, sizes_of, maps_of, values_behind}
use Rattle.xf_print_laws.specs.SaidPrinted.{index_printed}
use Rattle.xf_print_laws.proofs.Lists.{with_attrs, with_operands, with_out}
use Rattle.xf_print_laws.proofs.Maps.{with_maps}
use Rattle.xf_print_laws.proofs.Needs.{has_window}
use Rattle.xf_print_laws.proofs.Structured.{with_iterators, window_uses, places_are}

-- where an operation with such results stands
abbrev pub OpensAt : Level → List PayloadType → Row → Type 0
OpensAt l [] r = opens l (Some r) ≡ true
OpensAt l (t ∷ ts) r = (has_operations l ≡ true) × (opens level.Body (Some r) ≡ true)

-- what a head says
abbrev pub begun : Row → ℕ → List PayloadType → Said
begun r i ts = says_row r (record nothing_said { defines = defines_printed i ts })

row_word_goes : (l : Level) (w : List ℕ) (r : Row) (y : Terminal) (d : Said) → lookup words w ≡ Some r
    → opens l (Some r) ≡ true → Goes (row_rule l) (word_fill w) y d (says_row r d)
unfolding row_rule
row_word_goes l w r y d e o = record {
  fit = λ s. and_is _ _ (ap (opens l) e ∙ o) refl;
  say = ap (λ z. free_said (says_row (the_row z) d)) e;
  few = λ s. s;
  lex = (row_lexes w r e, tt);
}

and_never : (b : Bool) → not (b && false) ≡ true
and_never true = refl
and_never false = refl

pub head_goes : (l : Level) (i : ℕ) (ts : List PayloadType) (w : List ℕ) (r : Row) (y : Terminal)
    → lookup words w ≡ Some r → OpensAt l ts r → i < 2 ^ 64 → length ts < 2 ^ 32
    → Goes (head_rule l) (head_fill i ts w) y nothing_said (begun r i ts)
unfolding head_rule row_rule defines_rule kind_rule
head_goes l i [] w r y e o lt few =
    let g = row_word_goes l w r y nothing_said e o in
    record { fit = λ s. and_is _ _ (and_never (has_operations l)) (g.fit s); say = g.say; few = g.few; lex = g.lex }
head_goes l i (t ∷ []) w r y e o lt few =
    let h = o.0 in
    let g = row_word_goes level.Body w r y (record nothing_said { defines = defines_printed i (t ∷ []) }) e o.1 in
    record {
      fit = λ s. rw h (g.fit s);
      say = g.say;
      few = g.few;
      lex = (number_lexes i lt, ((tt, (tt, (mark_lexes 61 refl, tt))), g.lex));
    }
head_goes l i (t ∷ (u ∷ ts)) w r y e o lt few =
    let h = o.0 in
    let count = length (t ∷ (u ∷ ts)) in
    let many : ℕ → Said = λ c. says_define (number_name i) c nothing_said in
    let g = row_word_goes level.Body w r y (many (count_of (terminal token.Integer (decimal count)))) e o.1 in
    so_said (ap (λ c. says_row r (many c)) (count_is count few)) (record {
      fit = λ s. rw h (g.fit s);
      say = g.say;
      few = g.few;
      lex = (
        number_lexes i lt,
        (((mark_lexes 58 refl, (integer_lexes count (omega arith), tt)), (tt, (mark_lexes 61 refl, tt))), g.lex),
      );
    })

-- ---- the first token of a head

pub head_begins : (l : Level) (i : ℕ) (ts : List PayloadType) (w : List ℕ)
    → begins (written language (head_rule l) (head_fill i ts w)) ≡ true
unfolding head_rule row_rule
head_begins l i [] w = refl
head_begins l i (t ∷ []) w = refl
head_begins l i (t ∷ (u ∷ ts)) w = refl

-- what may stand behind an operation: no brace that opens, and no else
abbrev pub goes_on : Terminal → Bool
goes_on y = not (is_kind open_brace y) && not (is_word (codes "else") y)

pub head_goes_on : (l : Level) (g : Gap) (i : ℕ) (ts : List PayloadType) (w : List ℕ) (r : Row) (qs : List Spaced)
    (y : Terminal) → lookup words w ≡ Some r
    → goes_on (follow (begun_with g (written language (head_rule l) (head_fill i ts w)) ++ qs) y) ≡ true
unfolding head_rule row_rule defines_rule
head_goes_on l g i [] w r qs y e = not_false _ (another_word w (codes "else") r e refl)
head_goes_on l g i (t ∷ []) w r qs y e = refl
head_goes_on l g i (t ∷ (u ∷ ts)) w r qs y e = refl

-- what stands behind the slots of a kind, before a token behind it
abbrev pub after : Kind → Terminal → Terminal
after k y = if has_body k then terminal open_brace [] else if is_terminator k then terminal close_brace [] else y

-- what an operation says before what stands behind its bodies
abbrev pub headed : Kind → Said → Said
headed (kind.For width) d = record d { entries = [] }
headed kind.If d = record d { entries = [] }
headed (kind.Generic maps iterators) d = record d { results = [] }
headed k d = d

-- and before the header of its bodies, where its operands have these types
abbrev pub untailed : Kind → List (Option PayloadType) → Said → Said
untailed (kind.Generic maps iterators) os d = record d { args = []; types = known_types os; results = [] }
untailed k os d = headed k d

headed_map : (k : Kind) (d : Said) → (headed k d).map ≡ d.map
headed_map kind.If d = refl
headed_map k d = refl

untailed_map : (k : Kind) (os : List (Option PayloadType)) (d : Said) → (untailed k os d).map ≡ d.map
untailed_map kind.If os d = refl
untailed_map k os d = refl

-- ---- the table of rows

-- the head of an operation with such block arguments, and what it says up to the slots
abbrev head_with : Names → Tree → List PayloadType → Said
head_with names t args =
    head_by names (number_of (names.entry t.name.0)) (first_in names t) t.kind t.attrs t.operands t.results args

abbrev begun_of : Names → Tree → Said
begun_of names t = begun (row_of t.kind) (number_of (names.entry t.name.0)) t.results

-- an operation has what its row asks for, and says itself by it
abbrev RowFits : Names → Tree → Type 0
RowFits names t =
    (every (offers names t) (slots (row_of t.kind)) ≡ true)
    × (((y : Terminal) → apart (slots (row_of t.kind)) (after t.kind y) ≡ true)
    × (slots_say names t (slots (row_of t.kind)) (begun_of names t)
    ≡ untailed t.kind (map (type_of names) t.operands)
    (head_with names t (arguments_of t.kind t.results (first_args t.regions)))))

-- types that are written in two places
known_both : (xs ys : List (Option PayloadType)) → known_types xs ++ known_types ys ≡ known_types (xs ++ ys)
known_both [] ys = refl
known_both (None ∷ xs) ys = known_both xs ys
known_both (Some t ∷ xs) ys = ap (λ ts. t ∷ ts) (known_both xs ys)

-- and what each of its bodies begins with
abbrev HeaderFits : Names → Tree → Type 0
HeaderFits names t =
    (every (offers names t) (header (row_of t.kind)) ≡ true)
    × (((y : Terminal) → apart (header (row_of t.kind)) y ≡ true)
    × (slots_say names t (header (row_of t.kind))
    (untailed t.kind (map (type_of names) t.operands) (head_with names t (first_args t.regions)))
    ≡ headed t.kind (head_with names t (first_args t.regions))))

-- and what stands behind its bodies
abbrev TailFits : Names → Tree → List PayloadType → Type 0
TailFits names t args =
    (every (offers names t) (tail (row_of t.kind)) ≡ true)
    × (((y : Terminal) → not (is_kind open_brace y) ≡ true → apart (tail (row_of t.kind)) y ≡ true)
    × (slots_say names t (tail (row_of t.kind)) (headed t.kind (head_with names t args)) ≡ head_with names t args))

-- operands, and others behind them
operands_both : (names : Names) (os vs : List ValueName) (d : Said)
    → with_operands names vs (with_operands names os d) ≡ with_operands names (os ++ vs) d
operands_both names os vs d i = record d {
  uses = (append_assoc d.uses (map (use_printed names) os) (map (use_printed names) vs)
      ∙ ap (λ us. d.uses ++ us) (sym (map-append (use_printed names) os vs))) i;
  types = (append_assoc d.types (known_types (map (type_of names) os)) (known_types (map (type_of names) vs))
      ∙ ap (λ ts. d.types ++ ts) (known_both (map (type_of names) os) (map (type_of names) vs)
      ∙ ap known_types (sym (map-append (type_of names) os vs)))) i;
}

not_none : (os : List ValueName) → not (is_empty os) ≡ true → length os ≡ suc (length os - 1)
not_none [] e = absurd cc
not_none (o ∷ os) e = omega arith

last_is : (os : List ValueName) (n : ℕ) → length os ≡ suc n
    → (v : ValueName) × ((slice_get os n ≡ Some v) × (take n os ++ v ∷ [] ≡ os))
last_is [] n e = absurd (omega (arith, e))
last_is (v ∷ []) zero e = (v, (refl, refl))
last_is (v ∷ w ∷ os) zero e = absurd (omega (arith, e))
last_is (v ∷ os) (suc n) e =
    let r = last_is os n (omega (arith, e)) in (r.0, (r.1.0, ap (λ vs. v ∷ vs) r.1.1))

-- all operands: the last one stands behind the others
last_value : (names : Names) (os : List ValueName) (d : Said) → not (is_empty os) ≡ true
    → let n = length os - 1 in with_out names (slice_get os n) (with_operands names (take n os) d)
    ≡ with_operands names os d
last_value names os d e =
    let r = last_is os (length os - 1) (not_none os e) in
    let n = length os - 1 in
    ap (λ o. with_out names o (with_operands names (take n os) d)) r.1.0
    ∙ (operands_both names (take n os) (r.0 ∷ []) d ∙ ap (λ vs. with_operands names vs d) r.1.1)

module _ (names : Names) (n : OpName) (ds : List Attr) where
  named_fits_two : (which : NamedKind) (a b : ValueName) (t : PayloadType) (rs : Regions)
      → RowFits names (tree n (kind.Named which) ds (a ∷ (b ∷ [])) (t ∷ []) rs)
  named_fits_two which a b t rs =
      let x : Tree = tree n (kind.Named which) ds (a ∷ (b ∷ [])) (t ∷ []) rs in
      let both = known_both (type_of names a ∷ []) (type_of names b ∷ []) in
      (refl, (λ y. refl, λ i. record (head_with names x []) { types = both i }))

  named_fits_three : (which : NamedKind) (a b v : ValueName) (t : PayloadType) (rs : Regions)
      → RowFits names (tree n (kind.Named which) ds (a ∷ (b ∷ (v ∷ []))) (t ∷ []) rs)
  named_fits_three which a b v t rs =
      let x : Tree = tree n (kind.Named which) ds (a ∷ (b ∷ (v ∷ []))) (t ∷ []) rs in
      let both = known_both (type_of names a ∷ (type_of names b ∷ [])) (type_of names v ∷ []) in
      (refl, (λ y. refl, λ i. record (head_with names x []) { types = both i }))

  extract_fits : (offsets sizes : List SliceIndex) (a : ValueName) (os : List ValueName) (t : PayloadType)
      (rs : Regions)
      → has_window (kind.ExtractSlice offsets sizes) (a ∷ os) ≡ true
      → RowFits names (tree n (kind.ExtractSlice offsets sizes) ds (a ∷ os) (t ∷ []) rs)
  extract_fits offsets sizes a os t rs e =
      let x : Tree = tree n (kind.ExtractSlice offsets sizes) ds (a ∷ os) (t ∷ []) rs in
      let uses = window_uses names offsets sizes os
      (eqb-true (length os) (open_count offsets + open_count sizes) e) in
      let o = places_are offsets os in
      let s = places_are sizes (values_behind offsets os) in (
        refl,
        (
          λ y. refl,
          λ i. record (head_with names x []) {
            uses = use_printed names a ∷ uses i;
            offsets = o i;
            sizes = s i;
          },
        ),
      )

  insert_fits : (offsets sizes : List SliceIndex) (a b : ValueName) (os : List ValueName) (ts : List PayloadType)
      (rs : Regions) → has_window (kind.InsertSlice offsets sizes) (a ∷ (b ∷ os)) ≡ true
      → RowFits names (tree n (kind.InsertSlice offsets sizes) ds (a ∷ (b ∷ os)) ts rs)
  insert_fits offsets sizes a b os ts rs e =
      let x : Tree = tree n (kind.InsertSlice offsets sizes) ds (a ∷ (b ∷ os)) ts rs in
      let uses = window_uses names offsets sizes os
      (eqb-true (length os) (open_count offsets + open_count sizes) e) in
      let o = places_are offsets os in
      let s = places_are sizes (values_behind offsets os) in (
        refl,
        (
          λ y. refl,
          λ i. record (head_with names x []) {
            uses = use_printed names a ∷ (use_printed names b ∷ uses i);
            offsets = o i;
            sizes = s i;
          },
        ),
      )

  generic_fits : (maps : List AffineMap) (iterators : List IteratorKind) (a : ValueName) (os : List ValueName)
      (t : PayloadType) (rs : Regions)
      → RowFits names (tree n (kind.Generic maps iterators) ds (a ∷ os) (t ∷ []) rs)
  generic_fits maps iterators a os t rs =
      let x : Tree = tree n (kind.Generic maps iterators) ds (a ∷ os) (t ∷ []) rs in
      let d : Said = with_iterators iterators (with_maps maps (begun_of names x)) in
      let last = last_is (a ∷ os) (length (a ∷ os) - 1) (not_none (a ∷ os) refl) in
      let some = ap is_some last.1.0 in
      (rw some refl, (λ y. refl, ap (with_attrs ds) (last_value names (a ∷ os) d refl)))

  row_fits : (k : Kind) (os : List ValueName) (ts : List PayloadType) (rs : Regions)
      → counted names k os ts ≡ true → RowFits names (tree n k ds os ts rs)
  row_fits (kind.Module None) [] ts rs e = (refl, (λ y. refl, refl))
  row_fits (kind.Module (Some s)) [] ts rs e = (refl, (λ y. refl, refl))
  row_fits (kind.Func s true rets) [] ts rs e = (refl, (λ y. refl, refl))
  row_fits (kind.Func s false rets) [] ts rs e = (refl, (λ y. refl, refl))
  row_fits kind.Return os ts rs e = (refl, (λ y. refl, refl))
  row_fits kind.Yield os ts rs e = (refl, (λ y. refl, refl))
  row_fits (kind.Call callee) os ts rs e = (refl, (λ y. refl, refl))
  row_fits (kind.Constant w bits) [] ts rs e = (refl, (λ y. refl, refl))
  row_fits (kind.Binary which w) (a ∷ (b ∷ [])) ts rs e = (refl, (λ y. refl, refl))
  row_fits (kind.Compare which w) (a ∷ (b ∷ [])) ts rs e = (refl, (λ y. refl, refl))
  row_fits (kind.Select w) (a ∷ (b ∷ (v ∷ []))) ts rs e = (refl, (λ y. refl, refl))
  row_fits (kind.Convert which from to) (a ∷ []) ts rs e = (refl, (λ y. refl, refl))
  row_fits (kind.For w) (a ∷ (b ∷ (v ∷ os))) ts rs e = (refl, (λ y. refl, refl))
  row_fits kind.If (a ∷ []) ts rs e = (refl, (λ y. refl, refl))
  row_fits kind.Empty os (Tensor s ∷ []) rs e = (refl, (λ y. refl, refl))
  row_fits kind.Dim (a ∷ (b ∷ [])) ts rs e = (and_is _ _ e refl, (λ y. refl, refl))
  row_fits kind.Extract (a ∷ os) ts rs e = (and_is _ _ e refl, (λ y. refl, refl))
  row_fits kind.Insert (a ∷ (b ∷ os)) ts rs e = (and_is _ _ e refl, (λ y. refl, refl))
  row_fits kind.Cast (a ∷ []) (t ∷ []) rs e = (refl, (λ y. refl, refl))
  row_fits (kind.Named which) (a ∷ (b ∷ [])) (t ∷ []) rs e = named_fits_two which a b t rs
  row_fits (kind.Named which) (a ∷ (b ∷ (v ∷ []))) (t ∷ []) rs e = named_fits_three which a b v t rs
  row_fits (kind.Dense shape numbers) [] ts rs e = (refl, (λ y. refl, refl))
  row_fits (kind.ExtractSlice offsets sizes) (a ∷ os) (t ∷ []) rs e = extract_fits offsets sizes a os t rs e
  row_fits (kind.InsertSlice offsets sizes) (a ∷ (b ∷ os)) ts rs e = insert_fits offsets sizes a b os ts rs e
  row_fits (kind.Generic maps iterators) (a ∷ os) (t ∷ []) rs e = generic_fits maps iterators a os t rs
  row_fits kind.LinalgYield (a ∷ []) ts rs e = (and_is _ _ e refl, (λ y. refl, refl))
  row_fits k os ts rs e = absurd cc

  header_fits : (k : Kind) (os : List ValueName) (ts : List PayloadType) (rs : Regions)
      → HeaderFits names (tree n k ds os ts rs)
  header_fits kind.If os ts rs = (refl, (λ y. refl, refl))
  header_fits k os ts rs = (refl, (λ y. refl, refl))

  tail_fits : (k : Kind) (os : List ValueName) (ts args : List PayloadType) (rs : Regions)
      → counted names k os ts ≡ true → TailFits names (tree n k ds os ts rs) args
  tail_fits (kind.For w) os ts args rs c =
      (refl, (λ y e. and_is _ _ (and_is _ _ e refl) refl, refl))
  tail_fits kind.If os ts args rs c =
      (refl, (λ y e. and_is _ _ (and_is _ _ e refl) refl, refl))
  tail_fits (kind.Generic maps iterators) os (t ∷ []) args rs c = (refl, (λ y e. refl, refl))
  tail_fits (kind.Generic maps iterators) (o ∷ os) [] args rs c = absurd cc
  tail_fits (kind.Generic maps iterators) (o ∷ os) (t ∷ (u ∷ ts)) args rs c = absurd cc
  tail_fits (kind.Generic maps iterators) [] ts args rs c = absurd cc
  tail_fits k os ts args rs c = (refl, (λ y e. refl, refl))

-- ---- the lists of a head are short

arguments_count : (k : ℕ) (ts : List PayloadType) → length (arguments_printed k ts) ≡ length ts
arguments_count k [] = refl
arguments_count k (t ∷ ts) = ap suc (arguments_count (suc k) ts)

known_few : (os : List (Option PayloadType)) → length (known_types os) ≤ length os
known_few [] = omega arith
known_few (None ∷ os) = let e = known_few os in omega arith
known_few (Some t ∷ os) = let e = known_few os in omega arith

at_few : (os : List (Option PayloadType)) (i : ℕ) → length (known_at os i) ≤ 1
at_few [] i = omega arith
at_few (None ∷ os) zero = omega arith
at_few (Some t ∷ os) zero = omega arith
at_few (o ∷ os) (suc i) = at_few os i

types_few : (k : Kind) (args : List PayloadType) (os : List (Option PayloadType)) → length args < 2 ^ 32
    → length os < 2 ^ 32 → (is_generic k ≡ true → length os + length args < 2 ^ 32)
    → length (types_printed k args os) < 2 ^ 32
types_few (kind.Func symbol private results) args os a o b = a
types_few (kind.InsertSlice offsets sizes) args os a o b =
    omega (arith, length-append (known_at os 0) (known_at os 1), at_few os 0, at_few os 1)
types_few (kind.Generic maps iterators) args os a o b =
    omega (arith, length-append (known_types os) args, known_few os, b refl)
types_few k args os a o b = omega (arith, known_few os, at_few os 0, at_few os 1, o)

results_few : (k : Kind) (ts : List PayloadType) → length ts < 2 ^ 32 → length (returned_types k) < 2 ^ 32
    → length (results_printed k ts) < 2 ^ 32
results_few (kind.Func symbol private results) ts t r = r
results_few k ts t r = omega (arith, t)

-- the attributes of an operation stand behind its bodies, or what is behind them
tail_clear : (k : Kind) (y : Terminal) → not (is_word (codes "else") y) ≡ true
    → clear (a_word (codes "else") ∷ []) (tail (row_of k)) y ≡ true
tail_clear (kind.Generic maps iterators) y e = refl
tail_clear kind.If y e = and_is _ _ e refl
tail_clear k y e = and_is _ _ e refl

module _ {names : Names} {t : Tree} {rest : Ops} (w : Fits names t rest) where
  tail_of : TailFits names t (first_args t.regions)
  tail_of =
      tail_fits names t.name t.attrs t.kind t.operands t.results (first_args t.regions) t.regions w.count

  -- what is said before the header of a body
  abbrev pub before_header : Said
  before_header = untailed t.kind (map (type_of names) t.operands) (head_printed names t)

  pub row_goes : (y : Terminal)
      → Goes (slots_rule (slots (row_of t.kind))) (filled names t (slots (row_of t.kind))) (after t.kind y)
      (begun_of names t) before_header
  row_goes y =
      let r = row_fits names t.name t.attrs t.kind t.operands t.results t.regions w.count in
      so_said (r.1.1
      ∙ ap (λ args. untailed t.kind (map (type_of names) t.operands) (head_with names t args)) (sym w.arguments))
      (slots_go w (slots (row_of t.kind)) (after t.kind y) (begun_of names t) refl r.0 (r.1.0 y))

  pub header_goes : (y : Terminal) → Goes (slots_rule (header (row_of t.kind)))
      (filled names t (header (row_of t.kind))) y before_header (headed t.kind (head_printed names t))
  header_goes y =
      let r = header_fits names t.name t.attrs t.kind t.operands t.results t.regions in
      so_said r.1.1 (slots_go w (header (row_of t.kind)) y before_header
      (untailed_map t.kind (map (type_of names) t.operands) (head_printed names t)) r.0 (r.1.0 y))

  pub tail_goes : (y : Terminal) → not (is_kind open_brace y) ≡ true → Goes (slots_rule (tail (row_of t.kind)))
      (filled names t (tail (row_of t.kind))) y (headed t.kind (head_printed names t)) (head_printed names t)
  tail_goes y e =
      let r = tail_of in
      so_said r.1.1 (slots_go w (tail (row_of t.kind)) y (headed t.kind (head_printed names t))
      (headed_map t.kind (head_printed names t)) r.0 (r.1.0 y e))

  pub tail_seen : (y : Terminal) → not (is_word (codes "else") y) ≡ true
      → not (is_word (codes "else") (first_seen
      (tokens language (slots_rule (tail (row_of t.kind))) (filled names t (tail (row_of t.kind)))) y)) ≡ true
  tail_seen y e =
      (both_true _ true (clear_seen names t (tail (row_of t.kind)) (a_word (codes "else") ∷ []) y tail_of.0
      (tail_clear t.kind y e))).0

  pub head_few : FewSaid (head_printed names t)
  head_few =
      let few = w.few in
      let p = w.properties in
      let args = first_short t.regions few.arguments in
      let a = arguments_count (first_of (names.entry t.name.0)) (first_args t.regions) in
      let e = length-map t.attrs entry_printed in
      let u = length-map t.operands (use_printed names) in
      let o = length-map t.operands (type_of names) in
      let types = types_few t.kind (first_args t.regions) (map (type_of names) t.operands) args (omega arith)
      (λ g. omega (arith, o, p.types g)) in
      let offsets = length-map (offsets_of t.kind) index_printed in
      let sizes = length-map (sizes_of t.kind) index_printed in
      let maps = length-map (maps_of t.kind) written_map in (
        omega arith,
        (
          omega arith,
          (
            omega arith,
            (
              types,
              (
                results_few t.kind t.results few.results few.returned,
                (
                  omega (arith, offsets, p.offsets),
                  (omega (arith, sizes, p.sizes), (omega (arith, maps, p.maps), p.iterators)),
                ),
              ),
            ),
          ),
        ),
      )

  -- there are few behind the headers
  pub before_few : FewSaid (headed t.kind (head_printed names t))
  before_few = (tail_goes (terminal close_brace []) refl).few head_few
