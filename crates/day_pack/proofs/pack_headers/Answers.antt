-- `day_pack::pack_headers`: one header more in each turn.
use Rattle.std.proofs.Common.{◌≡◌, arith}
use Rattle.day_pack.proofs.Heads.{heads_first, head_there, head_moves, heads_next, heads_all}
use Rattle.day_pack.proofs.pack_headers.Goals as goal

pub loop-i-init : goal.loop-i-init
loop-i-init c = heads_first c.args.out.now c.args.table.now c.args.headers c.requires.0

pub read-n-requires-clause-inside : goal.read-n-requires-clause-inside
read-n-requires-clause-inside c = head_there c.loop-i.invariant c.args.headers c.loop-i-test.true c.requires.0

pub move_kept-to-requires : goal.move_kept-to-requires
move_kept-to-requires c = head_moves c.loop-i.invariant c.args.headers c.loop-i-test.true c.requires.0 c.read-n.result c.read-n.ensures.value

pub overflow_add-from : goal.overflow_add-from
overflow_add-from c = omega (arith, (head_moves c.loop-i.invariant c.args.headers c.loop-i-test.true c.requires.0 c.read-n.result c.read-n.ensures.value).1)

pub loop-i-preserved : goal.loop-i-preserved
loop-i-preserved c =
    heads_next c.loop-i.invariant c.args.headers c.loop-i-test.true c.requires.0 c.read-n.result c.read-n.ensures.value
    c.bit.result c.move_kept-to.result c.move_kept-to.new.out c.bit.ensures.0 c.move_kept-to.ensures.0 c.move_kept-to.ensures.1

pub returns : goal.returns
returns c = let all : c.loop-i.i ≡ c.args.headers = omega arith in heads_all c.loop-i.invariant c.args.headers all
