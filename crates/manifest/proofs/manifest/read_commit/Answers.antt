-- The first part is the commit's line, if it is ended.
use Rattle.std.proofs.Common.{[], length, ap, sym, ◌∙◌, arith}
use Rattle.manifest.specs.ManifestText.{after_commit, digest_of, lines_of, manifest_of_lines}
use Rattle.manifest.proofs.TextLemmas.{parts-cut, parts-no_cut}
use Rattle.manifest.proofs.ReadLemmas.{after_commit-some, first_line}
use Rattle.manifest.proofs.manifest.read_commit.Goals as goal

pub returns-in-Some-commit_of-clause-commit : goal.returns-in-Some-commit_of-clause-commit
returns-in-Some-commit_of-clause-commit c =
    let rest = c.in-Some.rest.now in
    ap (manifest_of_lines (digest_of c.args.bytes.now)) (parts-cut 10 c.args.bytes.now c.in-Some.line.now rest (sym c.in-Some.ensures.parts))
    ∙ ap (λ o. after_commit (digest_of c.args.bytes.now) o (lines_of rest)) (sym c.in-Some-commit_of.ensures) ∙ after_commit-some (digest_of c.args.bytes.now) c.in-Some-commit_of.commit rest

pub returns-in-None-commit_of-clause-refused : goal.returns-in-None-commit_of-clause-refused
returns-in-None-commit_of-clause-refused c =
    let rest = c.in-Some.rest.now in
    ap (manifest_of_lines (digest_of c.args.bytes.now)) (parts-cut 10 c.args.bytes.now c.in-Some.line.now rest (sym c.in-Some.ensures.parts))
    ∙ ap (λ o. after_commit (digest_of c.args.bytes.now) o (lines_of rest)) (sym c.in-None-commit_of.ensures)

pub returns-in-Some-commit_of-2-clause-refused : goal.returns-in-Some-commit_of-2-clause-refused
returns-in-Some-commit_of-2-clause-refused c =
    ap (manifest_of_lines (digest_of c.args.bytes.now)) (parts-no_cut 10 c.args.bytes.now (sym c.in-None.ensures.parts)) ∙ ap (λ o. after_commit (digest_of c.args.bytes.now) o []) (sym c.in-Some-commit_of-2.ensures)

pub returns-in-None-commit_of-2-clause-refused : goal.returns-in-None-commit_of-2-clause-refused
returns-in-None-commit_of-2-clause-refused c =
    ap (manifest_of_lines (digest_of c.args.bytes.now)) (parts-no_cut 10 c.args.bytes.now (sym c.in-None.ensures.parts)) ∙ ap (λ o. after_commit (digest_of c.args.bytes.now) o []) (sym c.in-None-commit_of-2.ensures)

pub returns-in-Some-commit_of-clause-behind : goal.returns-in-Some-commit_of-clause-behind
returns-in-Some-commit_of-clause-behind c = let left = ap length (parts-cut 10 c.args.bytes.now c.in-Some.line.now c.in-Some.rest.now (sym c.in-Some.ensures.parts)) in omega (arith, left)

pub returns-in-None-commit_of-clause-line : goal.returns-in-None-commit_of-clause-line
returns-in-None-commit_of-clause-line c = first_line c.args.bytes.now

pub returns-in-Some-commit_of-2-clause-line : goal.returns-in-Some-commit_of-2-clause-line
returns-in-Some-commit_of-2-clause-line c = first_line c.args.bytes.now

pub returns-in-None-commit_of-2-clause-line : goal.returns-in-None-commit_of-2-clause-line
returns-in-None-commit_of-2-clause-line c = first_line c.args.bytes.now
