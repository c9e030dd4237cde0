-- a line is returned only of a file that the manifest has, with these bytes
use Rattle.std.proofs.Common.{◌∙◌, List, ap, sym}
use Rattle.std.specs.Option.{option_copied}
use Rattle.manifest.specs.Manifest.{Line, line_of}
use Rattle.blob_store.proofs.extent_line.line_within.Goals as goal

pub returns-then-has_part-clause-within : goal.returns-then-has_part-clause-within
returns-then-has_part-clause-within c = record {
  line = c.in_ok-line.line.now;
  is_line = ap (λ (lines : List Line). line_of lines c.args.extent.now.file) (sym c.lines.ensures.lines)
      ∙ sym c.line_of.ensures ∙ ap option_copied c.in_ok-line.was;
  has_part = c.has_part.ensures.part.0 c.if-has_part.true;
}
