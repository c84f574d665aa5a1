use Rattle.std.proofs.Common.{◌≡◌, None, [], ◌∷◌, ◌++◌, ap, ◌∙◌, rules}
use Rattle.mem_plain.specs.Pages.{page_in}
use Rattle.mem_plain.proofs.DirectoryLemmas.{places_added}
use Rattle.mem_plain.proofs.directory.Directory.make_places.Goals as goal

pub places-preserved : goal.places-preserved
places-preserved c = record {
  same = λ q. let pushed : c.push.new.self.items ≡ c.places.self.tables.items ++ None ∷ [] = search rules in
      ap (λ tables. page_in tables q) pushed ∙ (places_added c.places.self.tables.items q ∙ c.places.invariant.same q);
  len = search rules;
}
