use Rattle.std.proofs.Common.{[], length, refl, sym, ap, ◌∙◌, arith}
use Rattle.std.proofs.lemmas.List.{drop_all}
use Rattle.mem_plain.specs.Contents.{contents_with}
use Rattle.image_reader.specs.Elf.{byte_of_loads}
use Rattle.image_reader.proofs.LoadsLemmas.{laid_down}
use Rattle.image_reader.proofs.loading.lay_loads.Goals as goal

pub loads-init : goal.loads-init
loads-init c =
    c.new-mem.ensures
    ∙ (sym (c.contents_of_a_function.ensures.nothing (byte_of_loads c.args.bytes.now []) (λ q _. refl))
    ∙ ap (λ loads. contents_with (byte_of_loads c.args.bytes.now loads)) (sym (drop_all (length c.args.loads.now) c.args.loads.now (omega arith))))

pub loads-preserved : goal.loads-preserved
loads-preserved c =
    c.in_ok-mem.ensures
    ∙ laid_down c.contents_of_a_function.ensures.alike c.contents_of_a_function.ensures.laid c.args.bytes.now c.args.loads.now c.loads.k _ c.loads.mem (omega arith) (omega arith) c.requires.inside c.requires.smaller c.requires.before_end c.loads.invariant
