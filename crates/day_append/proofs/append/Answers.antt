-- `day_append::append`: each return is one case of the definition.
use Rattle.std.proofs.Common.{rules}
use Rattle.day_append.proofs.Settles.{asked, past_buffer, unread, size_short, unfit, too_long_lem, no_room, ready, appended}
use Rattle.day_append.proofs.append.Goals as goal

pub returns-then-buffer-size : goal.returns-then-buffer-size
returns-then-buffer-size c =
    let a = c.args in
    past_buffer a.buffer.now a.size a.number a.header.now a.stretch a.sealed.now c.if-buffer-size.true

pub returns-in_default : goal.returns-in_default
returns-in_default c =
    let a = c.args in
    unread a.buffer.now a.size a.number a.header.now a.stretch a.sealed.now c.if-buffer-size.false c.in_default.ensures

pub returns-then-not-fits : goal.returns-then-not-fits
returns-then-not-fits c =
    let a = c.args in
    let d = c.in-Some.day in
    let q = asked a.buffer.now a.size a.number a.header.now a.stretch a.sealed.now d.headers d.records d.first (search rules) c.if-buffer-size.false c.in-Some.ensures in
    unfit q c.if-not-fits.ensures

pub grown_size-n-requires : goal.grown_size-n-requires
grown_size-n-requires c =
    let a = c.args in
    let d = c.in-Some.day in
    let q = asked a.buffer.now a.size a.number a.header.now a.stretch a.sealed.now d.headers d.records d.first (search rules) c.if-buffer-size.false c.in-Some.ensures in
    size_short q

pub returns-then-n-gt-LONGEST_FILE : goal.returns-then-n-gt-LONGEST_FILE
returns-then-n-gt-LONGEST_FILE c =
    let a = c.args in
    let d = c.in-Some.day in
    let q = asked a.buffer.now a.size a.number a.header.now a.stretch a.sealed.now d.headers d.records d.first (search rules) c.if-buffer-size.false c.in-Some.ensures in
    too_long_lem q c.if-not-fits.ensures c.grown_size-n.result c.grown_size-n.ensures c.if-n-gt-LONGEST_FILE.true

pub returns-then-buffer-n : goal.returns-then-buffer-n
returns-then-buffer-n c =
    let a = c.args in
    let d = c.in-Some.day in
    let q = asked a.buffer.now a.size a.number a.header.now a.stretch a.sealed.now d.headers d.records d.first (search rules) c.if-buffer-size.false c.in-Some.ensures in
    no_room q c.if-not-fits.ensures c.grown_size-n.result c.grown_size-n.ensures c.if-n-gt-LONGEST_FILE.false c.if-buffer-n.true

pub put_grown-requires : goal.put_grown-requires
put_grown-requires c =
    let a = c.args in
    let d = c.in-Some.day in
    let q = asked a.buffer.now a.size a.number a.header.now a.stretch a.sealed.now d.headers d.records d.first (search rules) c.if-buffer-size.false c.in-Some.ensures in
    ready q c.if-not-fits.ensures c.grown_size-n.result c.grown_size-n.ensures c.if-n-gt-LONGEST_FILE.false c.if-buffer-n.false

pub returns : goal.returns
returns c =
    let a = c.args in
    let d = c.in-Some.day in
    let q = asked a.buffer.now a.size a.number a.header.now a.stretch a.sealed.now d.headers d.records d.first (search rules) c.if-buffer-size.false c.in-Some.ensures in
    appended q c.if-not-fits.ensures c.grown_size-n.result c.grown_size-n.ensures c.if-n-gt-LONGEST_FILE.false c.if-buffer-n.false c.put_grown.new.out c.put_grown.ensures
