use Rattle.std.proofs.Common.{◌≡◌, subst, sym}
use Rattle.ev_http.specs.declared.head.Kind.{Kind}
use Rattle.ev_http.specs.declared.head.Judged.TheVariants.{More}
use Rattle.ev_http.specs.Heads.{HasNoHead, MayBecome}
use Rattle.ev_http.proofs.head.judge.Goals as goal

pub returns-in-Request-clause-more : goal.returns-in-Request-clause-more
returns-in-Request-clause-more c = subst (λ (k : Kind). c.judge_request.result ≡ More → HasNoHead k c.args.bytes.now) (sym c.in-Request.is) c.judge_request.ensures.more

pub returns-in-Response-clause-more : goal.returns-in-Response-clause-more
returns-in-Response-clause-more c = subst (λ (k : Kind). c.judge_response.result ≡ More → HasNoHead k c.args.bytes.now) (sym c.in-Response.is) c.judge_response.ensures.more

pub returns-in-Request-clause-may : goal.returns-in-Request-clause-may
returns-in-Request-clause-may c = subst (λ (k : Kind). c.judge_request.result ≡ More → MayBecome k c.args.bytes.now) (sym c.in-Request.is) c.judge_request.ensures.may

pub returns-in-Response-clause-may : goal.returns-in-Response-clause-may
returns-in-Response-clause-may c = subst (λ (k : Kind). c.judge_response.result ≡ More → MayBecome k c.args.bytes.now) (sym c.in-Response.is) c.judge_response.ensures.may
