-- The codings of this crate's types, by which a proof tells their values apart.
use Rattle.std.specs.Prelude.{ℕ, List, refl}
use Rattle.std.specs.Coded.{Coded, code_by, coded×, coded_ℕ, coded_list}
use Rattle.std.specs.FinMap as map
use Rattle.std.specs.Ordering.{nat_cmp}
use Rattle.eden_base.specs.contracts.attr.Kind as kind
use Rattle.eden_base.specs.contracts.attr.Perm as perm
use Rattle.eden_base.specs.declared.attr.Kind.{Kind}
use Rattle.eden_base.specs.declared.attr.Perm.{Perm}
use Rattle.eden_base.specs.declared.number.FileId.{FileId}
use Rattle.manifest.specs.Manifest.{File, Line, Manifest}
use Rattle.manifest.specs.Tree.{Tree, link_cmp}

-- the coding of a kind
abbrev pub kind_code : Coded Kind
kind_code = kind.the_row.coded

-- the coding of permissions, by their bits
abbrev pub perm_code : Coded Perm
perm_code = perm.the_row.coded

-- the coding of a file's id, by its number
abbrev pub file_id_code : Coded FileId
file_id_code = code_by ℕ coded_ℕ (λ f. f.0) (λ n. record { 0 = n }) (λ _. refl)

-- the coding of a file's content: kind, permissions and size
abbrev pub file_code : Coded File
file_code =
    code_by (Kind × (Perm × ℕ)) (coded× kind_code (coded× perm_code coded_ℕ)) (λ f. (f.kind, (f.perm, f.size)))
    (λ p. record { kind = p.0; perm = p.1.0; size = p.1.1 }) (λ _. refl)

-- the coding of a line: directory, name and file
abbrev pub line_code : Coded Line
line_code =
    code_by (FileId × (List ℕ × File)) (coded× file_id_code (coded× (coded_list coded_ℕ) file_code))
    (λ l. (l.dir, (l.name, l.file))) (λ p. record { dir = p.0; name = p.1.0; file = p.1.1 }) (λ _. refl)

-- the coding of a manifest: commit, digest and lines
abbrev pub manifest_code : Coded Manifest
manifest_code =
    code_by (List ℕ × (List ℕ × List Line))
    (coded× (coded_list coded_ℕ) (coded× (coded_list coded_ℕ) (coded_list line_code)))
    (λ m. (m.commit, (m.digest, m.lines))) (λ p. record { commit = p.0; digest = p.1.0; lines = p.1.1 }) (λ _. refl)

-- the coding of links: directories and names, with their files
abbrev pub links_code : Coded (map.FinMap link_cmp FileId)
links_code = map.code (coded× coded_ℕ (coded_list coded_ℕ)) file_id_code

-- the coding of a tree: manifest, files, links and the next file
abbrev pub tree_code : Coded Tree
tree_code =
    code_by (Manifest × (map.FinMap nat_cmp File × (map.FinMap link_cmp FileId × ℕ)))
    (coded× manifest_code (coded× (map.code coded_ℕ file_code) (coded× links_code coded_ℕ)))
    (λ t. (t.manifest, (t.files, (t.links, t.next_file))))
    (λ p. record { manifest = p.0; files = p.1.0; links = p.1.1.0; next_file = p.1.1.1 }) (λ _. refl)

-- the coding of lines, in their order
abbrev pub lines_code : Coded (List Line)
lines_code = coded_list line_code
