-- Why there are no files, of those faults that a question comes to.
use Rattle.std.proofs.Common.{ℕ, List}
use Rattle.git_blobs.specs.Reading.{Answers, IsNoRepository, IsTreeFault, IsUnasked}
use Rattle.git_blobs.specs.declared.tree_fault.TreeFault.{TreeFault}
use Rattle.git_blobs.specs.declared.tree_fault.TreeFault.TheVariants.{BadTree, NoCommit, NoGit, NoMemory, NoRepository, Sha256}

pub unasked : (answers : Answers) (revision : List ℕ) (fault : TreeFault) → IsUnasked fault → IsTreeFault answers revision fault
unasked answers revision (NoGit error) is = tt
unasked answers revision NoMemory is = tt
unasked answers revision (NoRepository error) is = absurd is
unasked answers revision (NoCommit error) is = absurd is
unasked answers revision (Sha256 error) is = absurd is
unasked answers revision (BadTree fault) is = absurd is

pub no_repository : (answers : Answers) (revision : List ℕ) (fault : TreeFault) → IsNoRepository answers fault → IsTreeFault answers revision fault
no_repository answers revision (NoRepository error) is = is
no_repository answers revision (NoGit error) is = tt
no_repository answers revision NoMemory is = tt
no_repository answers revision (NoCommit error) is = absurd is
no_repository answers revision (Sha256 error) is = absurd is
no_repository answers revision (BadTree fault) is = absurd is
