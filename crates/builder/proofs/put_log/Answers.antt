use Rattle.std.proofs.Common.{◌≡◌, ◌∙◌, length, length-set, arith}
use Rattle.builder.proofs.Items.{one_long, log_long, strings_put}
use Rattle.builder.proofs.put_log.Goals as goal

pub bounds-out-0 : goal.bounds-out-0
bounds-out-0 c =
    let a = c.args in
    omega (arith, log_long a.nonce.now a.host.now a.collector.now a.locale.now)

pub put-second-requires : goal.put-second-requires
put-second-requires c =
    let a = c.args in
    simp length-set (omega (arith, log_long a.nonce.now a.host.now a.collector.now a.locale.now, one_long a.nonce.now))

pub put-third-requires : goal.put-third-requires
put-third-requires c =
    let a = c.args in
    let second : length c.put-second.new.out ≡ length a.out.now = c.put-second.auto.out ∙ simp length-set in
    omega (arith, log_long a.nonce.now a.host.now a.collector.now a.locale.now, one_long a.host.now, second, c.put-second.ensures.0)

pub put-fourth-requires : goal.put-fourth-requires
put-fourth-requires c =
    let a = c.args in
    let second : length c.put-second.new.out ≡ length a.out.now = c.put-second.auto.out ∙ simp length-set in
    let third = c.put-third.auto.out ∙ second in
    omega (arith, log_long a.nonce.now a.host.now a.collector.now a.locale.now, one_long a.collector.now, third, c.put-second.ensures.0, c.put-third.ensures.0)

pub put-requires : goal.put-requires
put-requires c =
    let a = c.args in
    let second : length c.put-second.new.out ≡ length a.out.now = c.put-second.auto.out ∙ simp length-set in
    let fourth = c.put-fourth.auto.out ∙ c.put-third.auto.out ∙ second in
    omega (arith, log_long a.nonce.now a.host.now a.collector.now a.locale.now, one_long a.locale.now, fourth, c.put-second.ensures.0, c.put-third.ensures.0, c.put-fourth.ensures.0)

pub returns : goal.returns
returns c =
    let a = c.args in
    strings_put a.nonce.now a.host.now a.collector.now a.locale.now a.out.now c.requires
    c.put-second.new.out c.put-third.new.out c.put-fourth.new.out c.put.new.out c.put-second.result c.put-third.result c.put-fourth.result
    c.put-second.ensures.1 c.put-second.ensures.0 c.put-third.ensures.1 c.put-third.ensures.0 c.put-fourth.ensures.1 c.put-fourth.ensures.0 c.put.ensures.1
