use Rattle.std.proofs.Common.{◌≡◌, ◌+◌, List, ◌++◌, ◌∷◌, [], take, sym, subst, arith}
use Rattle.std.proofs.lemmas.Bool.{false≢true}
use Rattle.std.proofs.lemmas.List.{take_all}
use Rattle.lj_script.specs.declared.scripts.Command.{Command}
use Rattle.lj_session.specs.Offered.{HasOffer}
use Rattle.lj_session.proofs.Searching.{has_none, take_item}
use Rattle.lj_session.proofs.offering.has_offer.Goals as goal

pub loop-command-preserved : goal.loop-command-preserved
loop-command-preserved c = λ h.
    let i = c.loop-command.command-index in
    let cs : List Command = c.args.commands.now in
    let item : Command = c.command-item.result in
    let more : take (i + 1) cs ≡ take i cs ++ item ∷ [] = take_item cs i item (omega arith) c.command-item.is in
    has_none (take i cs) item c.args.up.now c.loop-command.invariant
    (λ o. let t = c.in_ok-is_offer_of.ensures.1 o in cc)
    (subst (λ (ds : List Command). HasOffer ds c.args.up.now) more h)

pub returns : goal.returns
returns c = (
  λ t. absurd (false≢true t),
  λ h. absurd (c.loop-command.invariant (subst (λ (ds : List Command). HasOffer ds c.args.up.now)
      (sym (take_all c.loop-command.command-index c.args.commands.now (omega arith))) h)),
)
