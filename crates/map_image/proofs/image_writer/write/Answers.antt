use Rattle.std.proofs.Common.{List, ℕ, ◌++◌, ap, sym, ◌∙◌, rules}
use Rattle.map_image.specs.ImageText.{image_text}
use Rattle.map_image.proofs.ImageLaws.{image_again}
use Rattle.map_image.proofs.VersionLaws.{named_alike}
use Rattle.map_image.proofs.image_writer.write.Goals as goal

pub returns-clause-text : goal.returns-clause-text
returns-clause-text c =
    let image = c.args.image.now in
    let bytes = c.put_image.new.out.items in
    let form = c.in-Some.form in
    let text = image_text form.count_width c.args.version image in
    record {
      form = form;
      known = sym c.form_of.ensures.row ∙ c.in-Some.is;
      is_fit = c.requires;
      named = named_alike image.name.by form.named_by (search rules);
      name = c.put_image.ensures.name;
      numbers = c.put_image.ensures.numbers;
      members = c.put_image.ensures.members;
      is = c.put_image.ensures.text.items ∙ ap (λ (t : List ℕ). t ++ text) c.in-Ok.ensures.items;
    }

pub returns-clause-read_again : goal.returns-clause-read_again
returns-clause-read_again c = image_again c.args.image.now c.args.version c.put_image.new.out.items (returns-clause-text c)
