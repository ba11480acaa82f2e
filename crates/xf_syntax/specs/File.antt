-- Reading a whole text: a module, or functions alone, and then the end.
use Rattle.std.specs.Prelude.{ℕ, List, length, Ok, Err, true, false, if◌then◌else◌, codes}
use Rattle.xf_lex.specs.declared.token.Token.{Token}
use Rattle.xf_grammar.specs.Tokens.{terminal_at, says}
use Rattle.xf_grammar.specs.Reading.{Out, ◌>>=◌}
use Rattle.xf_grammar.specs.Grammar.{is_token}
use Rattle.xf_grammar.specs.Tree.{Nodes, Bodies, no_bodies, body, Tree, Block, tree}
use Rattle.xf_grammar.specs.Tree.{From, block_at, bodies_at, node_at, nodes_at}
use Rattle.xf_format.specs.declared.expected.Expected.{Expected}
use Rattle.xf_format.specs.declared.expected.Expected.TheVariants as due
use Rattle.xf_format.specs.declared.parts.Parts.{Parts}
use Rattle.xf_format.specs.declared.row.Body.{Body}
use Rattle.xf_format.specs.declared.row.Level.{Level}
use Rattle.xf_format.specs.declared.row.Level.TheVariants as level
use Rattle.xf_format.specs.declared.row.Row.{Row}
use Rattle.xf_format.specs.declared.row.Row.TheVariants as row
use Rattle.xf_format.specs.Actions.{Reading}
use Rattle.xf_format.specs.Format.{regions_of, format}
use Rattle.xf_format.specs.Parts.{no_parts}
use Rattle.xf_syntax.specs.declared.tree.File.{File}

-- operations up to a brace or the end, by the table; f is more than the tokens that are left
abbrev pub payload_nodes_at : ℕ → List Token → Level → ℕ → From (Nodes Parts) Expected
payload_nodes_at f all = nodes_at format (length all) f all

-- a block of an operation of a row, inside so many open regions, behind what was read of the operation
unfoldable pub payload_block_at : ℕ → List Token → Row → ℕ → Reading → From (Reading × Block Parts) Expected
payload_block_at f all r depth = block_at format (length all) all (payload_nodes_at f all) r depth

-- the blocks that a row may have, each read by one
unfoldable pub payload_bodies_at : Body → List Token → (Reading → From (Reading × Block Parts) Expected) → Reading
    → From (Reading × Bodies Parts) Expected
payload_bodies_at b all one = bodies_at format.language.passes (regions_of b) all one

-- one operation
unfoldable pub payload_node_at : ℕ → List Token → Level → ℕ → From (Tree Parts) Expected
payload_node_at f all = node_at format (length all) all (payload_nodes_at f all)

-- a whole text ends there
abbrev pub whole : List Token → Expected → File → ℕ → Out File Expected
whole all d file at = if is_token (terminal_at all at) then Err (at, d) else Ok (file, at)

abbrev pub written_file : Tree Parts → File
written_file t = record { written = true; root = t }

-- functions alone are those of a module that is left out
abbrev pub unwritten_file : Nodes Parts → ℕ → File
unwritten_file ns close = record { written = false; root = tree 0 (no_parts row.Module) (body ns close no_bodies) }

-- a module, or functions alone, whose region is open and whose module is counted; f is more than the tokens
abbrev pub file_at : ℕ → List Token → Out File Expected
file_at f all =
    if says all 0 (codes "module")
    then (payload_node_at f all level.File 0 0 0 >>= λ n. whole all due.Other (written_file n.0.0) n.1)
    else (payload_nodes_at f all level.File 1 1 0 >>= λ x. whole all due.Function (unwritten_file x.0.0 x.1) x.1)
