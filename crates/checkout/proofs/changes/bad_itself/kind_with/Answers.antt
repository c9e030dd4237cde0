-- The manifest's file, or one that was made.
use Rattle.std.proofs.Common.{sym, ap, ◌∙◌}
use Rattle.std.specs.Option.{option_map, option_or}
use Rattle.manifest.specs.Manifest.{File}
use Rattle.checkout.proofs.KindLemmas.{kind_among, kind_with-content}
use Rattle.checkout.proofs.changes.bad_itself.kind_with.Goals as goal

pub returns-in-Some : goal.returns-in-Some
returns-in-Some c =
    let made = kind_among c.args.files.now c.args.file in
    ap (λ o. option_or (option_map (λ (f : File). f.kind) o) made) c.in-Some.ensures.content ∙ sym (kind_with-content c.args.manifest.now c.args.files.now c.args.file)

pub returns-in-None : goal.returns-in-None
returns-in-None c =
    let made = kind_among c.args.files.now c.args.file in
    c.kind_among.ensures ∙ ap (λ o. option_or (option_map (λ (f : File). f.kind) o) made) c.in-None.ensures.content ∙ sym (kind_with-content c.args.manifest.now c.args.files.now c.args.file)
