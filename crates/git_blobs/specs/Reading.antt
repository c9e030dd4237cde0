-- Where a commit's files come from: what git is asked, and what is made of its answers. (git-rev-parse(1) and
-- git-ls-tree(1); by `^{commit}` a tag stands for the commit that it names, gitrevisions(7).)
use Rattle.std.specs.Prelude.{◌≡◌, ◌++◌, ◌∷◌, ◌⊎◌, [], ℕ, List, codes, nat_eq, true, Option, Some, None, Ok, Err, ⊤}
use Rattle.std.specs.List.{starts_with}
use Rattle.hex.specs.Hex.{encode_lower}
use Rattle.git_tree.specs.GitCommit.{commit_of}
use Rattle.git_tree.specs.GitTree.{IsGitTreeRefusal, git_tree_of}
use Rattle.git_tree.specs.declared.fault.CommitFault.TheVariants as commit_fault
use Rattle.git_tree.specs.declared.git_tree.GitTree.{GitTree}
use Rattle.git_blobs.specs.declared.tree_fault.TreeFault.{TreeFault}
use Rattle.git_blobs.specs.declared.tree_fault.TreeFault.TheVariants.{BadTree, NoCommit, NoGit, NoMemory, NoRepository, Sha256}

-- what git answers to words: what it prints, or nothing where it fails
abbrev pub Answers : Type 1
Answers = List (List ℕ) → Option (List ℕ) → Type 0

-- the question for a repository
abbrev pub repository_words : List (List ℕ)
repository_words = codes "rev-parse" ∷ codes "--git-dir" ∷ []

-- the question for the commit that a revision names
abbrev pub commit_words : List ℕ → List (List ℕ)
commit_words revision = codes "rev-parse" ∷ codes "--verify" ∷ (revision ++ codes "^{commit}") ∷ []

-- the question for the files of a commit
abbrev pub files_words : List ℕ → List (List ℕ)
files_words commit =
    codes "ls-tree" ∷ codes "-r" ∷ codes "-t" ∷ codes "-l" ∷ codes "-z" ∷ codes "--full-tree" ∷ encode_lower commit ∷ []

-- git names this commit for the revision
pub record IsNamed (answers : Answers) (revision commit : List ℕ) : Type 0 where
  pub named : List ℕ
  pub was_named : answers (commit_words revision) (Some named)
  pub is_commit : commit_of named ≡ Ok commit

-- the files are those that git lists for the commit that it names
pub record IsTreeOf (answers : Answers) (revision : List ℕ) (tree : GitTree) : Type 0 where
  pub commit : List ℕ
  pub printed : List ℕ
  pub is_named : IsNamed answers revision commit
  pub was_printed : answers (files_words commit) (Some printed)
  pub is_tree : git_tree_of commit printed ≡ Ok tree

-- git names no commit for the revision: it fails, or prints no name
abbrev pub IsUnnamed : Answers → List ℕ → Type 0
IsUnnamed answers revision =
    answers (commit_words revision) None
    ⊎ (named : List ℕ) × answers (commit_words revision) (Some named) × (commit_of named ≡ Err commit_fault.BadName)

-- git fails to list the files of the commit that it names
abbrev pub IsUnlisted : Answers → List ℕ → Type 0
IsUnlisted answers revision = (commit : List ℕ) × IsNamed answers revision commit × answers (files_words commit) None

-- git was not run, which any question comes to
abbrev pub IsUnasked : TreeFault → Type 0
IsUnasked (NoGit error) = ⊤
IsUnasked NoMemory = ⊤
IsUnasked fault = ⊥

-- there is no repository, or git was not run
abbrev pub IsNoRepository : Answers → TreeFault → Type 0
IsNoRepository answers (NoRepository error) = answers repository_words None
IsNoRepository answers fault = IsUnasked fault

-- why there are no files. No revision begins with `-`, as an option does.
abbrev pub IsTreeFault : Answers → List ℕ → TreeFault → Type 0
IsTreeFault answers revision (NoGit error) = ⊤
IsTreeFault answers revision (NoRepository error) = answers repository_words None
IsTreeFault answers revision (NoCommit error) =
    (starts_with nat_eq revision (codes "-") ≡ true) ⊎ IsUnnamed answers revision ⊎ IsUnlisted answers revision
IsTreeFault answers revision (Sha256 error) =
    (named : List ℕ) × answers (commit_words revision) (Some named) × (commit_of named ≡ Err commit_fault.Sha256)
IsTreeFault answers revision (BadTree fault) =
    (commit printed : List ℕ) × IsNamed answers revision commit × answers (files_words commit) (Some printed)
    × IsGitTreeRefusal commit printed fault
IsTreeFault answers revision NoMemory = ⊤
