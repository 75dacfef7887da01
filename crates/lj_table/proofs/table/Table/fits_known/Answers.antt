use Rattle.std.proofs.Common.{◌≡◌, List, ◌∙◌, ap, sym, subst, subst₂}
use Rattle.std.specs.List.{All}
use Rattle.lj_cover.specs.Instances.{IsRowOf}
use Rattle.lj_cover.specs.Rules.{Upload}
use Rattle.lj_table.specs.Tables.{Contents, IsOfFirst}
use Rattle.lj_table.proofs.table.Table.fits_known.Goals as goal

pub returns : goal.returns
returns c =
    let uploads = c.uploads.ensures.uploads ∙ ap (λ (t : Contents). t.arena.uploads) c.self.view_is in
    let same : c.args.ticket.now.rows ≡ c.rows.result.now = sym c.rows.ensures.rows in
    let known : IsOfFirst c.args.self.now.arena c.requires.known.0 c.args.ticket.now = c.requires.known.1 in (
      λ t. record {
        frame = known.frame;
        nodes = λ d at. (known.latest d at).node;
        rows = subst (All (IsRowOf c.args.self.now.arena.uploads c.args.ticket.now.cell)) c.rows.ensures.rows
            (subst₂ (λ (us : List Upload) d. All (IsRowOf us d) c.rows.result.now) uploads c.cell.ensures.cell
            (c.are_rows.ensures.0 t));
      },
      λ h. c.are_rows.ensures.1
          (subst₂ (λ (us : List Upload) d. All (IsRowOf us d) c.rows.result.now) (sym uploads)
          (sym c.cell.ensures.cell)
          (subst (All (IsRowOf c.args.self.now.arena.uploads c.args.ticket.now.cell)) same h.rows)),
    )
