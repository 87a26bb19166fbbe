use Rattle.std.proofs.Common.{arith, ap, not}
use Rattle.std.proofs.lemmas.Bool.{ne_eqb}
use Rattle.nx_locate.proofs.Spellings.{slash_found, no_slash, one_further}
use Rattle.nx_locate.proofs.uri_pattern.folder_len.Goals as goal

pub returns-then-uri-len-eq47-clause-len : goal.returns-then-uri-len-eq47-clause-len
returns-then-uri-len-eq47-clause-len c =
    slash_found c.args.uri.now c.loop-len.len c.loop-len-test.true c.loop-len.invariant.within c.if-uri-len-eq47.true
    c.loop-len.invariant.others

pub returns-clause-len : goal.returns-clause-len
returns-clause-len c = no_slash c.args.uri.now c.loop-len.len (omega (arith, c.loop-len-test.false)) c.loop-len.invariant.others

pub loop-len-preserved : goal.loop-len-preserved
loop-len-preserved c = record {
  within = omega (arith, c.loop-len.invariant.within);
  others =
      one_further c.args.uri.now c.loop-len.len c.loop-len-test.true (ap not (ne_eqb _ 47 c.if-uri-len-eq47.false))
      c.loop-len.invariant.others;
}
