-- Which fault of a manifest is told.
use Rattle.std.proofs.Common.{List, ℕ, subst, sym}
use Rattle.world_script.specs.Refusal.{IsManifestFault}
use Rattle.world_script.specs.declared.failure.Failure.{Failure}
use Rattle.world_script.specs.Source.{script_at}
use Rattle.edend.specs.Commands.{IsManifestRefusal}
use Rattle.edend.proofs.FailedCommands.{manifest-refused, manifest-unread}
use Rattle.edend.proofs.commands.manifest_tree.Goals as goal

pub returns-in-Err : goal.returns-in-Err
returns-in-Err g c = record {
  refused = manifest-unread _ c.args.words.now c.of_run.result c.in-Err.error.fault c.of_run.ensures.fault c.in-Err.ensures.refused c.in-Err.ensures.too_long (c.of_run.ensures.name c.in-Err.ensures.caused);
}

pub returns-in-Err-read_manifest : goal.returns-in-Err-read_manifest
returns-in-Err-read_manifest g c =
    let known = script_at (g.S.Sources.input_bytes c.args.sources.now) (g.S.Sources.file_bytes c.args.sources.now) c.args.words.now.manifest.now in
    let why = subst (λ (text : List ℕ). IsManifestFault text c.in-Err-read_manifest.fault) c.as_slice.ensures.value c.in-Err-read_manifest.ensures.refused in
    record {
      refused = subst (λ (failure : Failure). IsManifestRefusal known c.args.words.now failure) (sym c.plain.ensures)
          (manifest-refused known c.args.words.now c.in-Ok.text.items c.in-Err-read_manifest.fault c.in-Ok.ensures.whole why);
    }
