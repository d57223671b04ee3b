-- `day_clear::clear`: each return is one case of the definition.
use Rattle.std.proofs.Common.{take}
use Rattle.day_place.proofs.Held.{counted}
use Rattle.day_clear.proofs.Answers.{past_buffer, unread, unlisted, cleared_out}
use Rattle.day_clear.proofs.clear.Goals as goal

pub returns-then-buffer-size : goal.returns-then-buffer-size
returns-then-buffer-size c = let a = c.args in past_buffer a.buffer.now a.size a.dropped.now c.if-buffer-size.true

pub returns-in_default : goal.returns-in_default
returns-in_default c = let a = c.args in unread a.buffer.now a.size a.dropped.now c.if-buffer-size.false c.in_default.ensures

pub returns-then-not-rising : goal.returns-then-not-rising
returns-then-not-rising c =
    let a = c.args in
    let d = c.in-Some.day in
    let k = counted (take a.size a.buffer.now) d.headers d.records d.first c.in-Some.ensures in
    unlisted a.buffer.now a.size a.dropped.now c.if-buffer-size.false d.headers d.records d.first k c.if-not-rising.ensures

pub returns : goal.returns
returns c =
    let a = c.args in
    let d = c.in-Some.day in
    let k = counted (take a.size a.buffer.now) d.headers d.records d.first c.in-Some.ensures in
    cleared_out a.buffer.now a.size a.dropped.now c.if-buffer-size.false d.headers d.records d.first k c.if-not-rising.ensures
    c.put_cleared.result c.put_cleared.new.out c.put_cleared.ensures.0 c.put_cleared.ensures.1
