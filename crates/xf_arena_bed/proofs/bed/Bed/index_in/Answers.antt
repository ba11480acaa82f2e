use Rattle.std.proofs.Common.{◌≡◌, length, ap, rules, arith}
use Rattle.xf_arena_bed.proofs.HomeLemmas.{kids_few}
use Rattle.xf_arena_bed.proofs.bed.Bed.index_in.Goals as goal

pub overflow_add-before : goal.overflow_add-before
overflow_add-before c =
    let k = c.kids-kid-items.ensures in
    let few = kids_few c.self.inside c.args.self.now c.args.parent c.kids-kid-items.result c.self.invariant
    c.self.view_is c.requires k.found k.all in
    let begins : c.into_iter-kid-iterator.result ≡ c.kids-kid-items.result = search rules in
    let short = c.loop-kid.invariant.short in
    omega (arith, ap length begins, ap length c.in-Some.ensures.steps)
