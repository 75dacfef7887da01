use Rattle.std.proofs.Common.{◌≡◌, ◌∙◌, refl, subst}
use Rattle.std.proofs.lemmas.Option.{get_or_from_slice_get}
use Rattle.lj_cover.specs.Rules.{Upload}
use Rattle.lj_relax.specs.Steps.{Accepts}
use Rattle.lj_shared.specs.States.{AreAmong, IsFirstLacking}
use Rattle.lj_shared.specs.declared.state.State.{State}
use Rattle.lj_table.specs.Tables.{state_of}
use Rattle.lj_shared.proofs.held.Held.close.Goals as goal

pub returns-in_ok-bring-in-Some-clause-closes : goal.returns-in_ok-bring-in-Some-clause-closes
returns-in_ok-bring-in-Some-clause-closes g c =
    let own = c.args.own.now in
    let lacking : IsFirstLacking own c.args.self.now.table.arena.uploads c.in-Some.i =
    subst (λ (s : State). IsFirstLacking own s.table.arena.uploads c.in-Some.i) c.self.view_is
    c.in-Some.ensures.some in
    let up : c.index-own-i.result ≡ lacking.upload = c.index-own-i.is
    ∙ get_or_from_slice_get own c.in-Some.i lacking.upload c.index-own-i.result lacking.at_place in record {
      rest = c.requires.rest;
      place = c.in-Some.i;
      lacking = lacking;
      step = subst (λ (u : Upload). Accepts (state_of c.args.self.now.table) u (state_of c.bring.new.self.table)) up
          c.in_ok-bring-in-Some.ensures.step;
      clients = c.in_ok-bring-in-Some.ensures.clients;
    }

pub returns-in-None-clause-closes : goal.returns-in-None-clause-closes
returns-in-None-clause-closes g c = record {
  rest = c.requires.rest;
  among = subst (λ (s : State). AreAmong c.args.own.now s.table.arena.uploads) c.self.view_is c.in-None.ensures.none;
  state = refl;
}

pub returns-in-None-clause-settled : goal.returns-in-None-clause-settled
returns-in-None-clause-settled g c =
    c.show_least.ensures.least c.args.own.now
    (subst (λ (s : State). AreAmong c.args.own.now s.table.arena.uploads) c.self.view_is c.in-None.ensures.none)
