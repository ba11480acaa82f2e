-- What was written so far of a text, and what a call that fails leaves.
use Rattle.std.proofs.Common.{◌≡◌, ℕ, ◌+◌, ◌<◌, ◌≤◌, Bool, false, List, [], ◌∷◌, ◌++◌, length, drop, get_or, Option}
use Rattle.std.proofs.Common.{Result, refl, sym, ap, subst, ◌∙◌, arith, append_assoc, append-nil}
use Rattle.std.proofs.lemmas.List.{drop_more, drop_all}
use Rattle.xf_ir.specs.declared.op.Module.{Module}
use Rattle.xf_ir.specs.Tree.{Ops, Tree, Body}
use Rattle.xf_ir.specs.View.{ops_of, regions_of, tree_size, ops_size}
use Rattle.xf_ir.proofs.EraseLemmas.{size_at}
use Rattle.xf_printed.specs.Names.{Names, no_names}
use Rattle.xf_printed.specs.PrintedForm.{printed_form}
use Rattle.xf_print.specs.Lines.{block_text, body_text, closed, closing, fed, opening, rest_text, tail_text}
use Rattle.xf_print.proofs.Docs.{form_text, no_rest, rest_first}
use Rattle.xf_print.proofs.Fed.{OneByOne, all_start, both_fed}
use Rattle.xf_host.specs.Writes.{Gains, GainsPrefix, WritesText}
use Rattle.xf_host.proofs.WriteLemmas.{gains_nothing, gains-append, prefix-append, gains-prefix, writes-append}
use Rattle.xf_host.proofs.WriteLemmas.{writes_same}
use Rattle.xf_host.specs.declared.sink.SinkFail.{SinkFail}

-- a part of the text was written, and the rest is still to be written
pub record Going (old : Option (List ℕ)) (text rest : List ℕ) (now : Option (List ℕ)) : Type 0 where
  pub done : List ℕ
  pub is : text ≡ done ++ rest
  pub gains : Gains old done now

-- one more part
pub going_on : {old now new : Option (List ℕ)} {text rest more : List ℕ} (part : List ℕ) → rest ≡ part ++ more
    → Going old text rest now → Gains now part new → Going old text more new
going_on {old = old} {now = now} {new = new} {more = more} part e g h = record {
  done = g.done ++ part;
  is = g.is ∙ (ap (λ x. g.done ++ x) e ∙ sym (append_assoc g.done part more));
  gains = gains-append old now new g.done part g.gains h;
}

pub going_starts : (old : Option (List ℕ)) (text : List ℕ) → Going old text text old
going_starts old text = record { done = []; is = refl; gains = gains_nothing old }

-- the rest failed
pub going_stops : {old now new : Option (List ℕ)} {text rest : List ℕ} → Going old text rest now
    → GainsPrefix now rest new → GainsPrefix old text new
going_stops {old = old} {now = now} {new = new} {rest = rest} g f =
    subst (λ t. GainsPrefix old t new) (sym g.is) (gains-prefix old now new g.done rest g.gains f)

-- a part failed
pub going_fails : {old now new : Option (List ℕ)} {text rest : List ℕ} (part more : List ℕ) → rest ≡ part ++ more
    → Going old text rest now → GainsPrefix now part new → GainsPrefix old text new
going_fails {now = now} {new = new} part more e g f =
    going_stops g (subst (λ t. GainsPrefix now t new) (sym e) (prefix-append now new part more f))

-- the rest is written last
pub going_last : {T : Type 0} (r : Result T SinkFail) {old now : Option (List ℕ)} (new : Option (List ℕ))
    {text rest : List ℕ} → Going old text rest now → WritesText r rest now new → WritesText r text old new
going_last r {old = old} {now = now} new {rest = rest} g w =
    subst (λ t. WritesText r t old new) (sym g.is) (writes-append r old now new g.done rest g.gains w)

-- nothing is left
pub going_ends : {old now : Option (List ℕ)} {text rest : List ℕ} → rest ≡ [] → Going old text rest now
    → Gains old text now
going_ends {old = old} {now = now} e g =
    subst (λ t. Gains old t now) (sym (g.is ∙ (ap (λ x. g.done ++ x) e ∙ append-nil g.done))) g.gains

-- a call that fails behind all of a text
pub all_gained : (old new : Option (List ℕ)) (text : List ℕ) → Gains old text new → GainsPrefix old text new
all_gained old new text g = record { got = text; rest = []; is = sym (append-nil text); gains = g }

-- ---- items in order

-- the first of a list, in a text by items
item_at : {A : Type 0} (xs : List A) (i : ℕ) (x : A) → i < length xs → x ≡ get_or xs i x
    → drop i xs ≡ x ∷ drop (i + 1) xs
item_at xs i x lt is = drop_more xs i x lt ∙ ap (λ y. y ∷ drop (i + 1) xs) (sym is)

pub next_fed : {all : Ops → List ℕ} {one : Tree → List ℕ} → OneByOne all one → (ts : List Tree) (i : ℕ) (t : Tree)
    → i < length ts → t ≡ get_or ts i t
    → fed (all (ops_of (drop i ts))) ≡ fed (one t) ++ fed (all (ops_of (drop (i + 1) ts)))
next_fed {all = all} {one = one} o ts i t lt is =
    let rest = ops_of (drop (i + 1) ts) in
    ap (λ xs. fed (all (ops_of xs))) (item_at ts i t lt is) ∙ ap fed (o.more t rest)
    ∙ both_fed (one t) (all rest) (o.starts t) (all_start o rest)

pub none_fed : {all : Ops → List ℕ} {one : Tree → List ℕ} → OneByOne all one → (ts : List Tree) (i : ℕ)
    → length ts ≤ i → fed (all (ops_of (drop i ts))) ≡ []
none_fed {all = all} o ts i le = ap (λ xs. fed (all (ops_of xs))) (drop_all i ts le) ∙ ap fed o.none

-- a block behind the line so far, and then the line that ends it
block_split : (line block c rest : List ℕ)
    → (line ++ (block ++ ((10 ∷ c) ++ rest))) ++ 10 ∷ [] ≡ ((line ++ block) ++ 10 ∷ []) ++ ((c ++ rest) ++ 10 ∷ [])
block_split line block c rest = simp (append_assoc)

closing_is : (margin : ℕ) → closing margin ≡ 10 ∷ closed margin
unfolding closing
closing_is margin = refl

pub block_first : (names : Names) (margin : ℕ) (t : Tree) (first : Bool) (bs : List Body) (i : ℕ) (b : Body)
    (line line' : List ℕ) → i < length bs → b ≡ get_or bs i b → line' ≡ closed margin
    → (line ++ rest_text names margin t first (regions_of (drop i bs))) ++ 10 ∷ []
    ≡ ((line ++ block_text names margin t first b.ops) ++ 10 ∷ []) ++ ((line' ++ rest_text names margin t false
    (regions_of (drop (i + 1) bs))) ++ 10 ∷ [])
block_first names margin t first bs i b line line' lt is e =
    let block : List ℕ = block_text names margin t first b.ops in
    let rest : List ℕ = rest_text names margin t false (regions_of (drop (i + 1) bs)) in
    ap (λ xs. (line ++ rest_text names margin t first (regions_of xs)) ++ 10 ∷ []) (item_at bs i b lt is)
    ∙ ap (λ x. (line ++ x) ++ 10 ∷ []) (rest_first names margin t first b.args b.ops (regions_of (drop (i + 1) bs)))
    ∙ ap (λ c. (line ++ (block ++ (c ++ rest))) ++ 10 ∷ []) (closing_is margin)
    ∙ block_split line block (closed margin) rest
    ∙ ap (λ c. ((line ++ block) ++ 10 ∷ []) ++ ((c ++ rest) ++ 10 ∷ [])) (sym e)

-- no block is left
pub blocks_end : (names : Names) (margin : ℕ) (t : Tree) (first : Bool) (bs : List Body) (i : ℕ) (line : List ℕ)
    → length bs ≤ i
    → (line ++ rest_text names margin t first (regions_of (drop i bs))) ++ 10 ∷ [] ≡
    (line ++ tail_text names t) ++ 10 ∷ []
blocks_end names margin t first bs i line le =
    ap (λ xs. (line ++ rest_text names margin t first (regions_of xs)) ++ 10 ∷ []) (drop_all i bs le)
    ∙ ap (λ x. (line ++ x) ++ 10 ∷ []) (no_rest names margin t first)

-- ---- the module

pub form_written : {T : Type 0} (r : Result T SinkFail) (old new : Option (List ℕ)) (names : Names) (m : Module)
    (line : List ℕ) → names ≡ no_names → line ≡ opening names m.root
    → WritesText r (line ++ body_text names m) old new → WritesText r (printed_form m) old new
form_written r old new names m line e f w =
    writes_same r (line ++ body_text names m) (printed_form m) old new
    (ap (λ x. x ++ body_text names m) f ∙ ap (λ n. opening n m.root ++ body_text n m) e ∙ sym (form_text m)) w

-- ---- sizes

pub tree_below : (ts : List Tree) (i : ℕ) (t : Tree) → i < length ts → t ≡ get_or ts i t
    → tree_size t + 1 ≤ ops_size (ops_of ts)
tree_below ts i t lt is =
    let e : tree_size t ≡ tree_size (get_or ts i t) = ap tree_size is in omega (arith, e, size_at ts i t lt)
