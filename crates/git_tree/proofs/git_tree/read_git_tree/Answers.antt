-- What git prints of any entries is read as them.
use Rattle.git_tree.proofs.FormReads.{forms-read}
use Rattle.git_tree.proofs.git_tree.read_git_tree.Goals as goal

pub returns-in_err-files-clause-forms_are_read : goal.returns-in_err-files-clause-forms_are_read
returns-in_err-files-clause-forms_are_read c = forms-read c.args.commit c.args.output.now

pub returns-in-Ok-clause-forms_are_read : goal.returns-in-Ok-clause-forms_are_read
returns-in-Ok-clause-forms_are_read c = forms-read c.args.commit c.args.output.now

pub returns-in-Err-clause-forms_are_read : goal.returns-in-Err-clause-forms_are_read
returns-in-Err-clause-forms_are_read c = forms-read c.args.commit c.args.output.now
