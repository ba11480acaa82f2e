use Rattle.std.proofs.Common.{◌≤◌, length}
use Rattle.xf_lex.specs.Lexes.{start, Tokens}
use Rattle.xf_lex.proofs.lex.tokens.Given as goal

-- these are the tokens up to here
abbrev pub invariant-tokens : goal.invariant-tokens
invariant-tokens l = record {
  read : Tokens (start l.fn.bytes) l.tokens (record { after_tensor = l.after_tensor; place = l.place; rest = l.rest });
  within : length l.rest ≤ length l.fn.bytes;
}

abbrev pub decreases-tokens : goal.decreases-tokens
decreases-tokens l = length l.rest
