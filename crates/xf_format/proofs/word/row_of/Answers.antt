use Rattle.std.proofs.Common.{◌++◌}
use Rattle.xf_format.specs.Builtin as builtin
use Rattle.xf_format.specs.Func as func
use Rattle.xf_format.specs.Arith as arith
use Rattle.xf_format.specs.Scf as scf
use Rattle.xf_format.specs.Tensor as tensor
use Rattle.xf_format.specs.Linalg as linalg
use Rattle.xf_format.proofs.Lookups.{found_here, found_there}
use Rattle.xf_format.proofs.word.row_of.Goals as goal

pub returns-in-Some-row_of : goal.returns-in-Some-row_of
returns-in-Some-row_of c =
    found_there builtin.words (func.words ++ (arith.words ++ (scf.words ++ (tensor.words ++ linalg.words))))
    c.args.word.now _ c.in_default.ensures
    (found_here func.words (arith.words ++ (scf.words ++ (tensor.words ++ linalg.words))) c.args.word.now _
    c.in-Some-row_of.ensures)

pub returns-in-Some-row_of-2 : goal.returns-in-Some-row_of-2
returns-in-Some-row_of-2 c =
    found_there builtin.words (func.words ++ (arith.words ++ (scf.words ++ (tensor.words ++ linalg.words)))) c.args.word.now _
    c.in_default.ensures
    (found_there func.words (arith.words ++ (scf.words ++ (tensor.words ++ linalg.words))) c.args.word.now _ c.in_default-row_of.ensures
    (found_here arith.words (scf.words ++ (tensor.words ++ linalg.words)) c.args.word.now _ c.in-Some-row_of-2.ensures))

pub returns-in-Some-row_of-3 : goal.returns-in-Some-row_of-3
returns-in-Some-row_of-3 c =
    found_there builtin.words (func.words ++ (arith.words ++ (scf.words ++ (tensor.words ++ linalg.words)))) c.args.word.now _
    c.in_default.ensures
    (found_there func.words (arith.words ++ (scf.words ++ (tensor.words ++ linalg.words))) c.args.word.now _ c.in_default-row_of.ensures
    (found_there arith.words (scf.words ++ (tensor.words ++ linalg.words)) c.args.word.now _ c.in_default-row_of-2.ensures
    (found_here scf.words (tensor.words ++ linalg.words) c.args.word.now _ c.in-Some-row_of-3.ensures)))

pub returns-in-Some-row_of-4 : goal.returns-in-Some-row_of-4
returns-in-Some-row_of-4 c =
    found_there builtin.words (func.words ++ (arith.words ++ (scf.words ++ (tensor.words ++ linalg.words))))
    c.args.word.now _ c.in_default.ensures
    (found_there func.words (arith.words ++ (scf.words ++ (tensor.words ++ linalg.words))) c.args.word.now _
    c.in_default-row_of.ensures
    (found_there arith.words (scf.words ++ (tensor.words ++ linalg.words)) c.args.word.now _
    c.in_default-row_of-2.ensures
    (found_there scf.words (tensor.words ++ linalg.words) c.args.word.now _ c.in_default-row_of-3.ensures
    (found_here tensor.words linalg.words c.args.word.now _ c.in-Some-row_of-4.ensures))))

pub returns : goal.returns
returns c =
    found_there builtin.words (func.words ++ (arith.words ++ (scf.words ++ (tensor.words ++ linalg.words))))
    c.args.word.now _ c.in_default.ensures
    (found_there func.words (arith.words ++ (scf.words ++ (tensor.words ++ linalg.words))) c.args.word.now _
    c.in_default-row_of.ensures
    (found_there arith.words (scf.words ++ (tensor.words ++ linalg.words)) c.args.word.now _
    c.in_default-row_of-2.ensures
    (found_there scf.words (tensor.words ++ linalg.words) c.args.word.now _ c.in_default-row_of-3.ensures
    (found_there tensor.words linalg.words c.args.word.now _ c.in_default-row_of-4.ensures c.row_of-6.ensures))))
