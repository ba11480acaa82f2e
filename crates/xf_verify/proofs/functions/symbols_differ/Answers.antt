use Rattle.std.proofs.Common.{◌≡◌, ◌≤◌, ◌+◌, drop, length, sym, ap, ◌∙◌, arith}
use Rattle.std.specs.Prelude.{◌&&◌}
use Rattle.std.proofs.lemmas.List.{at_drop_all}
use Rattle.xf_ir.specs.Tree.{Body}
use Rattle.xf_ir.specs.Valid.{symbols_of, symbols_in}
use Rattle.xf_ir.specs.View.{ops_of, regions_of}
use Rattle.xf_verify.specs.Symbols.{symbols_seen, new_symbols, with_symbols}
use Rattle.xf_verify.proofs.SymbolLemmas.{blocks_on, new_once}
use Rattle.xf_verify.proofs.functions.symbols_differ.Goals as goal

pub returns-then-not-branch : goal.returns-then-not-branch
returns-then-not-branch c =
    let bs = c.args.blocks.now in
    let i = c.loop-block.block-index in
    let seen = symbols_seen c.loop-block.symbols in
    let os = ops_of c.deref.result.now in
    let same : os ≡ c.block-item.result.ops = ap ops_of c.deref.ensures.value
    ∙ ap (λ (b : Body). b.ops) c.block.view_is in
    ap (λ b. b && new_symbols (with_symbols (symbols_of os) seen) (symbols_in (regions_of (drop (i + 1) bs))))
    (sym c.if-not-branch.true ∙ c.in_ok-add_symbols.ensures.new)
    ∙ sym (blocks_on bs i c.block-item.result c.block-item.is c.loop-block-test.true seen os same)
    ∙ c.loop-block.invariant ∙ new_once (symbols_in (regions_of bs))

pub loop-block-preserved : goal.loop-block-preserved
loop-block-preserved c =
    let bs = c.args.blocks.now in
    let i = c.loop-block.block-index in
    let seen = symbols_seen c.loop-block.symbols in
    let os = ops_of c.deref.result.now in
    let same : os ≡ c.block-item.result.ops = ap ops_of c.deref.ensures.value
    ∙ ap (λ (b : Body). b.ops) c.block.view_is in
    ap (λ x. new_symbols x (symbols_in (regions_of (drop (i + 1) bs))))
    (c.in_ok-add_symbols.ensures.symbols c.if-not-branch.false)
    ∙ ap (λ b. b && new_symbols (with_symbols (symbols_of os) seen) (symbols_in (regions_of (drop (i + 1) bs))))
    (sym c.if-not-branch.false ∙ c.in_ok-add_symbols.ensures.new)
    ∙ sym (blocks_on bs i c.block-item.result c.block-item.is c.loop-block-test.true seen os same)
    ∙ c.loop-block.invariant

pub returns : goal.returns
returns c =
    let bs = c.args.blocks.now in
    let le : length bs ≤ c.loop-block.block-index = omega (arith, c.loop-block-test.false) in
    sym (at_drop_all (λ xs. new_symbols (symbols_seen c.loop-block.symbols) (symbols_in (regions_of xs)))
    bs c.loop-block.block-index le) ∙ c.loop-block.invariant ∙ new_once (symbols_in (regions_of bs))
