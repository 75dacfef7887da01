use Rattle.lj_text.proofs.LineOrder.{StandFrom-text_lines}
use Rattle.lj_text.proofs.LineLaws.{IsLineOf-text_lines, text_lines-feeds, text_lines-first, text_lines-placed}
use Rattle.lj_text.proofs.laws.lines_law.Goals as goal

pub returns : goal.returns
returns c = record {
  inside = IsLineOf-text_lines;
  order = StandFrom-text_lines;
  plain = text_lines-feeds;
  places = text_lines-placed;
  first = text_lines-first;
}
