-- The place of a fault: no text that agrees through that token is read.
use Rattle.std.proofs.Common.{◌≡◌, ℕ, suc, ◌+◌, ◌<◌, List, length, Result, Ok, Err, arith}
use Rattle.std.specs.Prelude.{codes}
use Rattle.xf_lex.specs.declared.token.Token.{Token}
use Rattle.xf_grammar.specs.Grammar.{is_token}
use Rattle.xf_grammar.specs.Lookahead.{Agree, reach, BoundedLookahead}
use Rattle.xf_grammar.specs.Tokens.{is_word}
use Rattle.xf_grammar.proofs.Lookahead.{done, stops, ask, chain}
use Rattle.xf_grammar.proofs.TreesSteady.{nodes_steady_at_length, node_steady_at_length}
use Rattle.xf_format.specs.declared.expected.Expected.{Expected}
use Rattle.xf_format.specs.declared.expected.Expected.TheVariants as due
use Rattle.xf_format.specs.declared.expected.Stopped.{Stopped}
use Rattle.xf_format.specs.declared.expected.Stopped.TheVariants as fault
use Rattle.xf_format.specs.declared.row.Level.TheVariants as level
use Rattle.xf_format.specs.Format.{format}
use Rattle.xf_format.specs.Reading.{Gives}
use Rattle.xf_syntax.specs.declared.tree.File.{File}
use Rattle.xf_syntax.specs.File.{payload_node_at, payload_nodes_at, whole, written_file, unwritten_file, file_at}
use Rattle.xf_syntax.specs.Laws.{NoTextThrough, AtNoText}

whole_steady : (d : Expected) (file : File) (all : List Token) (at : ℕ)
    → BoundedLookahead all at (λ ts. whole ts d file at)
whole_steady d file all at = ask is_token all at _ _ (stops all at at d (omega arith))
    (done all at file at (omega arith))

file_steady : (f : ℕ) (all : List Token) → BoundedLookahead all 0 (file_at f)
unfolding payload_node_at
file_steady f all =
    ask (is_word (codes "module")) all 0 _ _
    (chain all 0 (λ ts. payload_node_at f ts level.File 0 0 0) (λ ts n. whole ts due.Other (written_file n.0.0) n.1)
    (node_steady_at_length format f all level.File 0 0 0)
    (λ n. whole_steady due.Other (written_file n.0.0) all n.1))
    (chain all 0 (λ ts. payload_nodes_at f ts level.File 1 1 0)
    (λ ts x. whole ts due.Function (unwritten_file x.0.0 x.1) x.1)
    (nodes_steady_at_length format f all level.File 1 1 0)
    (λ x. whole_steady due.Function (unwritten_file x.0.0 x.1) all x.1))

no_text : (all : List Token) (i : ℕ) (d : Expected) → ((f : ℕ) → length all < f → file_at f all ≡ Err (i, d))
    → NoTextThrough i all
no_text all i d bad us a file spelt =
    let n : ℕ = suc (length all + length us) in
    let b = bad n (omega arith) in
    let a' : Agree (suc (reach (file_at n all))) all us = rw b a in
    let e = (file_steady n all).same us a' in
    absurd (let g = spelt n (omega arith) in cc)

pub at_no_text : (all : List Token) (o : Result File Stopped)
    → ((f : ℕ) → length all < f → Gives (λ file. (file, length all)) o (file_at f all)) → AtNoText o all
at_no_text all (Ok x) g = tt
at_no_text all (Err fault.NoMemory) g = tt
at_no_text all (Err (fault.At i d)) g = no_text all i d g
