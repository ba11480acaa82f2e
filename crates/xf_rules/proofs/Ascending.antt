-- Names that ascend from one to the next are in order.
use Rattle.std.proofs.Common.{◌≡◌, ◌&&◌, List, [], ◌∷◌, Some, None, Bool, true, false, refl, ap, sym, ◌∙◌}
use Rattle.std.proofs.lemmas.Bool.{and_parts, and_from}
use Rattle.xf_ir.specs.declared.kind.Attr.{Attr}
use Rattle.xf_ir.specs.Lists.{every}
use Rattle.xf_ir.specs.Attributes.{bytes_before}
use Rattle.xf_ir.specs.RuleAttributes.{attributes_fit}
use Rattle.xf_ir.proofs.BytesOrder.{before_trans}
use Rattle.xf_rules.specs.Attributes.{attribute_fits, names_ascend}

pub same_by_both : (a b : Bool) → (a ≡ true → b ≡ true) → (b ≡ true → a ≡ true) → a ≡ b
same_by_both true b f g = sym (f refl)
same_by_both false true f g = g refl
same_by_both false false f g = refl

pub and_again : (a b c : Bool) → ((a && b) && c) ≡ (a && (b && c))
and_again true b c = refl
and_again false b c = refl

-- whether a name comes before those of all these
abbrev before_all : Attr → List Attr → Bool
before_all d ds = every (λ (e : Attr). bytes_before d.name e.name) ds

-- what comes before a name comes before all that it comes before
before_further : (d e : Attr) (ds : List Attr) → bytes_before d.name e.name ≡ true → before_all e ds ≡ true
    → before_all d ds ≡ true
before_further d e [] h k = refl
before_further d e (x ∷ ds) h k =
    let p = and_parts (bytes_before e.name x.name) (before_all e ds) k in
    and_from (bytes_before d.name x.name) (before_all d ds) (before_trans d.name e.name x.name h p.0)
    (before_further d e ds h p.1)

-- attributes that fit and ascend behind one come behind it and are in order
behind : (d : Attr) (ds : List Attr) → (every attribute_fits ds && names_ascend (Some d) ds) ≡ true
    → (before_all d ds && attributes_fit ds) ≡ true
behind d [] h = refl
behind d (e ∷ es) h =
    let p = and_parts (attribute_fits e && every attribute_fits es) (bytes_before d.name e.name
    && names_ascend (Some e) es) h in
    let fit = and_parts (attribute_fits e) (every attribute_fits es) p.0 in
    let up = and_parts (bytes_before d.name e.name) (names_ascend (Some e) es) p.1 in
    let later = and_parts (before_all e es) (attributes_fit es)
    (behind e es (and_from (every attribute_fits es) (names_ascend (Some e) es) fit.1 up.1)) in
    and_from (before_all d (e ∷ es)) (attributes_fit (e ∷ es))
    (and_from (bytes_before d.name e.name) (before_all d es) up.0 (before_further d e es up.0 later.0))
    (and_from (attribute_fits e) (before_all e es
    && attributes_fit es) fit.0 (and_from (before_all e es) (attributes_fit es) later.0 later.1))

-- and the other way
ascend : (d : Attr) (ds : List Attr) → (before_all d ds && attributes_fit ds) ≡ true
    → (every attribute_fits ds && names_ascend (Some d) ds) ≡ true
ascend d [] h = refl
ascend d (e ∷ es) h =
    let p = and_parts (bytes_before d.name e.name && before_all d es) (attribute_fits e
    && (before_all e es && attributes_fit es)) h in
    let up = and_parts (bytes_before d.name e.name) (before_all d es) p.0 in
    let fit = and_parts (attribute_fits e) (before_all e es && attributes_fit es) p.1 in
    let later = and_parts (every attribute_fits es) (names_ascend (Some e) es) (ascend e es fit.1) in
    and_from (every attribute_fits (e ∷ es)) (names_ascend (Some d) (e ∷ es))
    (and_from (attribute_fits e) (every attribute_fits es) fit.0 later.0)
    (and_from (bytes_before d.name e.name) (names_ascend (Some e) es) up.0 later.1)

pub fit_by_neighbours : (ds : List Attr) → (every attribute_fits ds && names_ascend None ds) ≡ attributes_fit ds
fit_by_neighbours [] = refl
fit_by_neighbours (d ∷ ds) =
    and_again (attribute_fits d) (every attribute_fits ds) (names_ascend (Some d) ds)
    ∙ ap (λ b. attribute_fits d && b) (same_by_both (every attribute_fits ds
    && names_ascend (Some d) ds) (before_all d ds && attributes_fit ds) (behind d ds) (ascend d ds))
