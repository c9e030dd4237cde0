-- What is read has the text, and each text of a manifest is read as it.
use Rattle.std.proofs.Common.{rules}
use Rattle.manifest.proofs.FormLaws.{form_of_read}
use Rattle.manifest.proofs.FormReads.{read_of_form}
use Rattle.manifest.proofs.manifest.Manifest.read.Goals as goal

pub returns-in-Ok-of-clause-form : goal.returns-in-Ok-of-clause-form
returns-in-Ok-of-clause-form c = form_of_read c.args.bytes.now _ (search rules)

pub returns-in-Err-clause-forms_are_read : goal.returns-in-Err-clause-forms_are_read
returns-in-Err-clause-forms_are_read c = read_of_form c.args.bytes.now

pub returns-in_err-lines-clause-forms_are_read : goal.returns-in_err-lines-clause-forms_are_read
returns-in_err-lines-clause-forms_are_read c = read_of_form c.args.bytes.now

pub returns-in-Ok-of-clause-forms_are_read : goal.returns-in-Ok-of-clause-forms_are_read
returns-in-Ok-of-clause-forms_are_read c = read_of_form c.args.bytes.now

pub returns-in-Err-of-clause-forms_are_read : goal.returns-in-Err-of-clause-forms_are_read
returns-in-Err-of-clause-forms_are_read c = read_of_form c.args.bytes.now
