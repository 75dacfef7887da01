-- The board and the frame of a pass.
use Rattle.std.proofs.Common.{◌≡◌, ap, sym, ◌∙◌}
use Rattle.atomic_table.specs.Seated.{TableId}
use Rattle.atomic_table.specs.Table.{Me}
use Rattle.lj_base.specs.Frames.{Top}
use Rattle.lj_board.specs.declared.steps.View.{View}
use Rattle.lj_board.specs.Seen.{BoardView, PassView}

-- the pass is of the board, which is of the frame
pub frame_of : (f : Top) (p q : PassView) (b d : BoardView) → p ≡ q → q.board ≡ d → b ≡ d → b.frame ≡ f
    → p.board.frame ≡ f
frame_of f p q b d pq of bd framed =
    ap (λ (v : PassView). v.board.frame) pq ∙ ap (λ (v : BoardView). v.frame) of
    ∙ sym (ap (λ (v : BoardView). v.frame) bd) ∙ framed

-- a seat as contracts see the pass
abbrev pub pass_of : TableId → Me (Unit {0}) View → PassView
pass_of t m = record { board = record { table = t; frame = m.0.frame }; seen = m.0.seen }

-- two passes of one board
pub same_board : (p q r s : PassView) (b : BoardView) → p ≡ r → q ≡ s → r.board ≡ b → s.board ≡ b → q.board ≡ p.board
same_board p q r s b pr qs of other =
    ap (λ (v : PassView). v.board) qs ∙ other ∙ sym of ∙ sym (ap (λ (v : PassView). v.board) pr)
