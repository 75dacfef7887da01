use Rattle.lj_session.specs.Driving.{SeesAllowed}
use Rattle.lj_session.specs.ServeReplies.{serve_service}
use Rattle.lj_session.proofs.Driving.{served_done}
use Rattle.lj_session.proofs.Serving.{serving_accept, serving_asks, serving_bound, serving_falls, serving_on}
use Rattle.lj_session.proofs.Serving.{serving_own, serving_plan, serving_settle, serving_start, serving_uses}
use Rattle.lj_session.proofs.laws.serving_law.Goals as goal

pub returns : goal.returns
returns c = record {
  start = serving_start;
  goes_on = serving_on;
  falls = serving_falls;
  asks = serving_asks;
  own = serving_own;
  accept = serving_accept;
  bound = serving_bound;
  plan = serving_plan;
  settle = serving_settle;
  done = λ f limit sections section seen s h none.
      let d = served_done (serve_service f limit sections section.name) (SeesAllowed f limit seen) section s h none in
      ((d.0, d.1), d.2);
  uses = serving_uses;
}
