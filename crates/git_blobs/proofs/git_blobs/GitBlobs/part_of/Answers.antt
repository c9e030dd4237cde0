-- the part is of the file's object, at the size that the line says
use Rattle.std.proofs.Common.{rules, ap}
use Rattle.git_objects.specs.declared.git_objects.BlobPart.{BlobPart}
use Rattle.manifest.specs.Manifest.{Line}
use Rattle.git_blobs.proofs.git_blobs.GitBlobs.part_of.Goals as goal

pub returns-clause-part : goal.returns-clause-part
returns-clause-part g c =
    let part : Line → BlobPart = λ (line : Line). record {
      object = c.in-Some-of.name.0;
      size = line.file.size;
      offset = c.args.extent.now.offset;
      len = c.args.extent.now.len;
    } in
    record {
      line = c.in-Some.line.now;
      name = c.in-Some-of.name;
      is_line = c.in-Some.ensures.line;
      has_part = c.in-Some.ensures.part;
      is_name = search rules;
      is_part = ap part c.line.view_is;
    }
