use Rattle.std.proofs.Common.{ℕ, List, [], Some, ap, sym, ◌∙◌}
use Rattle.script_lines.specs.Words.{words_of}
use Rattle.world.specs.declared.event.Event.TheVariants.{Start}
use Rattle.script_lines.proofs.StartLemmas.{more_versions, last_version, no_start, one_version, all_versions}
use Rattle.script_lines.proofs.event_line.read_start.Goals as goal

pub returns-in_err-versions : goal.returns-in_err-versions
returns-in_err-versions c =
    let left = more_versions c.args.words.now c.loop-word.versions.items c.loop-word.rest.now c.in-Some.word.now c.in-Some.behind.now c.loop-word.invariant (sym c.in-Some.ensures.parts) in
    c.from_residual.ensures ∙ sym (no_start c.args.words.now c.loop-word.versions.items c.in-Some.word.now (words_of c.in-Some.behind.now) left (sym c.in_err-versions.ensures))

pub loop-word-preserved : goal.loop-word-preserved
loop-word-preserved c =
    let left = more_versions c.args.words.now c.loop-word.versions.items c.loop-word.rest.now c.in-Some.word.now c.in-Some.behind.now c.loop-word.invariant (sym c.in-Some.ensures.parts) in
    one_version c.args.words.now c.loop-word.versions.items c.in_ok-versions.versions.items c.in-Some.word.now (words_of c.in-Some.behind.now) left (sym c.in_ok-versions.ensures)

pub returns-in_err-versions-2 : goal.returns-in_err-versions-2
returns-in_err-versions-2 c =
    let left = last_version c.args.words.now c.loop-word.versions.items c.loop-word.rest.now c.loop-word.invariant (sym c.in_default.ensures.parts) in
    c.from_residual-in_err-versions-2.ensures ∙ sym (no_start c.args.words.now c.loop-word.versions.items c.loop-word.rest.now [] left (sym c.in_err-versions-2.ensures))

pub returns : goal.returns
returns c =
    let left = last_version c.args.words.now c.loop-word.versions.items c.loop-word.rest.now c.loop-word.invariant (sym c.in_default.ensures.parts) in
    let all = one_version c.args.words.now c.loop-word.versions.items c.in_ok-versions-2.versions.items c.loop-word.rest.now [] left (sym c.in_ok-versions-2.ensures) in
    ap (λ (versions : List ℕ). Some (Start versions)) (c.of.ensures.versions ∙ c.as_slice.ensures.value) ∙ sym (all_versions c.args.words.now c.in_ok-versions-2.versions.items all)
