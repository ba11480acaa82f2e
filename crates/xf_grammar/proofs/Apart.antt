-- What a grammar writes stands apart where its test says so: once, by the forms of a grammar.
use Rattle.std.proofs.Common.{◌≡◌, inl, inr, Bool, true, false, cond, List, [], ◌∷◌, ◌++◌, Option, Some, None, refl}
use Rattle.std.proofs.Common.{sym, ap, subst, ◌∙◌}
use Rattle.std.specs.Prelude.{option_and_then}
use Rattle.std.specs.List.{list_all}
use Rattle.xf_lex.specs.declared.token.TokenKind.TheVariants as kind
use Rattle.xf_grammar.specs.Tokens.{Terminal, comma}
use Rattle.xf_grammar.specs.Grammar.{Grammar, skip, take, peek, need, act, both, listed, scan, Language, Gap, blank}
use Rattle.xf_grammar.specs.Grammar.{gap_of, Spaced, Fill, nothing, yes, here, other, two, list, run, more_written}
use Rattle.xf_grammar.specs.Grammar.{begun, written, more_fits, fits}
use Rattle.xf_grammar.specs.Apart.{Before, a_gap, a_token, before, stands, is_gap, apart, last, Classes, all_stand}
use Rattle.xf_grammar.specs.Apart.{joined, way, Among, StandApart, Classed}
use Rattle.xf_grammar.proofs.Basics.{both_true, and_is}

-- ---- lists of tokens

pub apart_both : (b : Before) (ps qs : List Spaced) → apart b ps ≡ true → apart (last b ps) qs ≡ true
    → apart b (ps ++ qs) ≡ true
apart_both b [] qs h g = g
apart_both b (p ∷ ps) qs h g = let e = both_true _ _ h in
    and_is _ _ e.0 (apart_both (before p.token) ps qs e.1 g)

pub last_both : (b : Before) (ps qs : List Spaced) → last b (ps ++ qs) ≡ last (last b ps) qs
last_both b [] qs = refl
last_both b (p ∷ ps) qs = last_both (before p.token) ps qs

-- one list behind another
pub then_apart : (b : Before) (ps qs : List Spaced) (es fs : List Before) → StandApart b ps es
    → ((c : Before) → Among c es → StandApart c qs fs) → StandApart b (ps ++ qs) fs
then_apart b ps qs es fs x f =
    let y = f (last b ps) x.behind in
    record {
      apart = apart_both b ps qs x.apart y.apart;
      behind = subst (λ c. Among c fs) (sym (last_both b ps qs)) y.behind;
    }

-- a blank or a line before the first token
wider : (b c : Before) (g : Bool) → stands b g c ≡ true → stands b true c ≡ true
wider b a_gap g h = absurd cc
wider a_gap (a_token k t) g h = h
wider (a_token j s) (a_token k t) g h = and_is _ _ (both_true _ _ h).0 refl

pub begun_apart : (b : Before) (g : Gap) (ps : List Spaced) (es : List Before) → is_gap g ≡ true → StandApart b ps es
    → StandApart b (begun g ps) es
begun_apart b g [] es e h = h
begun_apart b g (p ∷ ps) es e h =
    let x = both_true _ _ h.apart in
    record {
      apart = and_is _ _ (subst (λ g. stands b g (before p.token) ≡ true) (sym e) (wider b _ _ x.0)) x.1;
      behind = h.behind;
    }

-- ---- tests of lists

among_left : (b : Before) (xs ys : List Before) → Among b xs → Among b (xs ++ ys)
among_left b [] ys h = absurd h
among_left b (x ∷ xs) ys (inl e) = inl e
among_left b (x ∷ xs) ys (inr h) = inr (among_left b xs ys h)

among_right : (b : Before) (xs ys : List Before) → Among b ys → Among b (xs ++ ys)
among_right b [] ys h = h
among_right b (x ∷ xs) ys h = inr (among_right b xs ys h)

each_passes : (p : Before → Bool) (bs : List Before) (b : Before) → list_all p bs ≡ true → Among b bs → p b ≡ true
each_passes p [] b h m = absurd m
each_passes p (c ∷ bs) b h (inl e) = ap p e ∙ (both_true (p c) _ h).0
each_passes p (c ∷ bs) b h (inr m) = each_passes p bs b (both_true (p c) _ h).1 m

stand_there : (bs cs : List Before) (gap : Bool) (b c : Before) → all_stand bs gap cs ≡ true → Among b bs → Among c cs
    → stands b gap c ≡ true
stand_there bs cs gap b c h m n = each_passes _ cs c (each_passes _ bs b h m) n

-- what stands behind one way or another
record Joined (x y : Option (List Before)) (es : List Before) : Type 0 where
  left : List Before
  right : List Before
  left_is : x ≡ Some left
  right_is : y ≡ Some right
  all : es ≡ left ++ right

same_list : (a b : List Before) → Some a ≡ Some b → a ≡ b
same_list a b e = cc

is_joined : (x y : Option (List Before)) (es : List Before) → joined x y ≡ Some es → Joined x y es
is_joined (Some a) (Some b) es h =
    record { left = a; right = b; left_is = refl; right_is = refl; all = sym (same_list _ es h) }
is_joined None (Some b) es h = absurd cc
is_joined (Some a) None es h = absurd cc
is_joined None None es h = absurd cc

on_left : {x y : Option (List Before)} {es : List Before} (j : Joined x y es) (b : Before) (ps : List Spaced)
    → StandApart b ps j.left → StandApart b ps es
on_left {x} {y} {es} j b ps h =
    record {
      apart = h.apart;
      behind = subst (Among (last b ps)) (sym j.all) (among_left _ j.left j.right h.behind);
    }

on_right : {x y : Option (List Before)} {es : List Before} (j : Joined x y es) (b : Before) (ps : List Spaced)
    → StandApart b ps j.right → StandApart b ps es
on_right {x} {y} {es} j b ps h =
    record {
      apart = h.apart;
      behind = subst (Among (last b ps)) (sym j.all) (among_right _ j.left j.right h.behind);
    }

if_some : (c : Bool) (x : Option (List Before)) (es : List Before) → cond c x None ≡ Some es
    → (c ≡ true) × (x ≡ Some es)
if_some true x es h = (refl, h)
if_some false x es h = absurd cc

-- an action for which there may be space
if_not_never : (n space : Bool) (x : Option (List Before)) (es : List Before) → (n ≡ true → space ≡ false)
    → space ≡ true → cond n (Some []) x ≡ Some es → x ≡ Some es
if_not_never true space x es f s h = absurd (let e = f refl in cc)
if_not_never false space x es f s h = h

pub record Chained (x : Option (List Before)) (f : List Before → Option (List Before)) (es : List Before) : Type 0 where
  pub middle : List Before
  pub first_is : x ≡ Some middle
  pub second_is : f middle ≡ Some es

pub chained : (x : Option (List Before)) (f : List Before → Option (List Before)) (es : List Before)
    → option_and_then f x ≡ Some es → Chained x f es
chained None f es h = absurd cc
chained (Some m) f es h = record { middle = m; first_is = refl; second_is = h }

nothing_apart : (b : Before) (bs es : List Before) → Some bs ≡ Some es → Among b bs → StandApart b [] es
nothing_apart b bs es e m = record { apart = refl; behind = subst (Among b) (same_list bs es e) m }

-- ---- a comma stands anywhere

comma_stands : (b : Before) → stands b false (a_token comma false) ≡ true
comma_stands a_gap = refl
comma_stands (a_token kind.Word t) = refl
comma_stands (a_token kind.Value t) = refl
comma_stands (a_token kind.Symbol t) = refl
comma_stands (a_token kind.BlockName t) = refl
comma_stands (a_token kind.Hash t) = refl
comma_stands (a_token kind.DialectType t) = refl
comma_stands (a_token kind.Integer t) = refl
comma_stands (a_token kind.Text t) = refl
comma_stands (a_token kind.Shape t) = refl
comma_stands (a_token kind.Arrow t) = refl
comma_stands (a_token (kind.Mark c) t) = refl

-- ---- the forms

-- the items behind the first
more_apart : {T : Type 0} (W : Fill → List Spaced) (S : Fill → T → T) (F : Fill → Terminal → T → Bool)
    (ds es : List Before)
    → ((p : Fill) (y : Terminal) (t : T) → F p y t ≡ true → StandApart (a_token comma false) (W p) ds)
    → (p : Fill) (y : Terminal) (t : T) (b : Before) → more_fits W S F p y t ≡ true
    → ((c : Before) → Among c ds → Among c es) → Among b es → StandApart b (more_written W p) es
more_apart W S F ds es f (list p r) y t b fit on m =
    let x = both_true _ _ fit in
    let item = begun_apart _ blank (W p) ds refl (f p _ t x.0) in
    let rest = then_apart _ _ _ ds es item
    (λ c n. more_apart W S F ds es f r y _ c x.1 on (on c n)) in
    record { apart = and_is _ _ (comma_stands b) rest.apart; behind = rest.behind }
more_apart W S F ds es f nothing y t b fit on m = record { apart = refl; behind = m }
more_apart W S F ds es f p y t b fit on m = absurd cc

module _ {A T K D X M : Type 0} (L : Language A T K D X M) (C : Classes K X M) (w : Classed L C) where
  pub stand_apart : (g : Grammar K D X M) (p : Fill) (y : Terminal) (t : T) (b : Before) (bs es : List Before)
      → fits L g p y t ≡ true → way C g bs ≡ Some es → Among b bs → StandApart b (written L g p) es
  stand_apart skip nothing y t b bs es fit e m = nothing_apart b bs es e m
  stand_apart (take gap keep x on off) (yes s p) y t b bs es fit e m =
      let f = both_true _ _ fit in
      let i = if_some _ _ es e in
      let j = is_joined _ _ es i.1 in
      let c = w.classed x s t f.0 in
      let r = stand_apart on p y _ _ _ j.left f.1 j.left_is c in
      on_left j b _ (record {
        apart = and_is _ _ (gap_stands gap b (before s) (stand_there bs _ gap b _ i.0 m c)) r.apart;
        behind = r.behind;
      })
    where
      gap_stands : (gap : Bool) (b c : Before) → stands b gap c ≡ true → stands b (is_gap (gap_of gap)) c ≡ true
      gap_stands true b c h = h
      gap_stands false b c h = h
  stand_apart (take gap keep x on off) (other p) y t b bs es fit e m =
      let i = if_some _ _ es e in
      let j = is_joined _ _ es i.1 in
      on_right j b _ (stand_apart off p y t b bs j.right (both_true _ _ fit).1 j.right_is m)
  stand_apart (peek x on off) (here p) y t b bs es fit e m =
      let j = is_joined _ _ es e in
      on_left j b _ (stand_apart on p y t b bs j.left (both_true _ _ fit).1 j.left_is m)
  stand_apart (peek x on off) (other p) y t b bs es fit e m =
      let j = is_joined _ _ es e in
      on_right j b _ (stand_apart off p y t b bs j.right (both_true _ _ fit).1 j.right_is m)
  stand_apart (need k on) p y t b bs es fit e m =
      let f = both_true _ _ fit in
      stand_apart on p y t b bs es f.1 (if_not_never _ _ _ es (w.never k t) f.0 e) m
  stand_apart (act k) nothing y t b bs es fit e m = nothing_apart b bs es (if_not_never _ _ _ es (w.never k t) fit e) m
  stand_apart (both g k) (two p q) y t b bs es fit e m =
      let f = both_true _ _ fit in
      let c = chained _ _ es e in
      then_apart b _ _ c.middle es (stand_apart g p _ t b bs c.middle f.0 c.first_is m)
      (λ d n. stand_apart k q y _ d c.middle es f.1 c.second_is n)
  stand_apart (listed g) (list p r) y t b bs es fit e m =
      let f = both_true _ _ fit in
      let j = is_joined _ _ es e in
      then_apart b _ _ j.left es (stand_apart g p _ t b bs j.left f.0 j.left_is m)
      (λ d n. more_apart _ _ _ j.right es
      (λ q z u h. stand_apart g q z u _ _ j.right h j.right_is (inl refl)) r y _ d f.1
      (λ c o. subst (Among c) (sym j.all) (among_right c j.left j.right o))
      (subst (Among d) (sym j.all) (among_left d j.left j.right n)))
  stand_apart (scan s) (run xs) y t b bs es fit e m = w.scanned s xs y t b bs es fit e m
  stand_apart g p y t b bs es fit e m = absurd cc
