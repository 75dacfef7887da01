use Rattle.std.proofs.Common.{◌≡◌, ◌∙◌, ◌++◌, ℕ, List, true, ap, subst, sym, subst₂}
use Rattle.std.proofs.Math.ListN.{set}
use Rattle.std.specs.List.{AllByRecursion}
use Rattle.lj_base.specs.Frames.{InFrame, Top, index_of}
use Rattle.lj_cover.specs.Instances.{rows_at}
use Rattle.lj_cover.specs.Rules.{Upload}
use Rattle.lj_relax.specs.Tickets.{TicketLists}
use Rattle.lj_table.specs.Claiming.{IsClaim, IsNext}
use Rattle.lj_table.specs.Tables.{Contents, contents_of}
use Rattle.lj_table.proofs.Claims.{claimed, filled}
use Rattle.lj_table.proofs.table.Table.claim_current.Goals as goal

pub push_rows-requires-clause-inside : goal.push_rows-requires-clause-inside
push_rows-requires-clause-inside c =
    let frame = ap (λ (q : TicketLists). q.frame) c.turn_to.ensures ∙ c.requires.frame
    ∙ ap (λ (t : Contents). t.arena.frame) (sym c.self.view_is) in
    subst₂ (λ (f : Top) (us : List Upload). AllByRecursion (λ (u : Upload). InFrame f u.cell) us) (sym frame)
    (sym c.uploads.ensures.uploads) c.uploads.ensures.inside

pub returns-in-Some-clause-claim : goal.returns-in-Some-clause-claim
returns-in-Some-clause-claim c =
    let t : Contents = contents_of c.self.inside.store in
    let q : TicketLists = c.args.ticket.now in
    let d = c.in-Some.cell in
    let next : IsNext c.self.inside.store.arena.frame c.self.inside.store.closed c.self.inside.store.busy
    c.in-Some.cell =
    subst (λ f. IsNext f c.self.inside.store.closed c.self.inside.store.busy c.in-Some.cell) c.frame-frame.ensures
    c.in-Some.ensures.some in
    let marked : c.mark.new.self
    ≡ set c.self.inside.store.busy (index_of c.self.inside.store.arena.frame c.in-Some.cell) true =
    c.mark.ensures ∙ ap (λ i. set c.self.inside.store.busy i true)
    (c.index.ensures.index ∙ ap (λ f. index_of f c.in-Some.cell) c.frame-frame.ensures) in
    let lists : c.push_rows.new.ticket ≡ filled q d t.bounds t.nodes (rows_at t.arena.uploads d) =
    c.push_rows.ensures
    ∙ ap (λ (x : TicketLists). record x { rows = x.rows ++ rows_at c.uploads.result.now x.cell }) c.turn_to.ensures
    ∙ ap (λ (bounds : List ℕ). filled q d bounds q.nodes (rows_at c.uploads.result.now d))
    (c.requires.bounds ∙ ap (λ (x : Contents). x.bounds) (sym c.self.view_is))
    ∙ ap (λ (nodes : List ℕ). filled q d t.bounds nodes (rows_at c.uploads.result.now d))
    (c.requires.nodes ∙ ap (λ (x : Contents). x.nodes) (sym c.self.view_is))
    ∙ ap (λ (us : List Upload). filled q d t.bounds t.nodes (rows_at us d)) c.uploads.ensures.uploads in
    subst (λ (x : Contents). IsClaim x c.args.ticket.now c.in-Some.cell
    (record t { busy = c.mark.new.self }) c.push_rows.new.ticket) c.self.view_is
    (claimed t c.args.ticket.now c.in-Some.cell c.mark.new.self c.push_rows.new.ticket
    c.rows_are_of_uploads.ensures.rows c.self.invariant.table
    (c.requires.frame ∙ ap (λ (x : Contents). x.arena.frame) (sym c.self.view_is)) next marked lists)
