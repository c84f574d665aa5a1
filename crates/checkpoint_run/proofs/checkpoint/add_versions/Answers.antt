use Rattle.std.proofs.Common.{◌≡◌, ◌++◌, true, sym, subst}
use Rattle.mem_plain.specs.Contents.{has_page}
use Rattle.checkpoint_run.specs.Versions.{pages_of, IsShownBut}
use Rattle.checkpoint_run.proofs.VersionLemmas.{among_first, among_rest, shown_pushed, more_pushed, pages_pushed}
use Rattle.checkpoint_run.proofs.checkpoint.add_versions.Goals as goal

pub page-requires : goal.page-requires
page-requires c =
    let page = c.in-Some.page.now in
    c.requires.pages page (c.pages.invariant.among page (subst (λ l. has_page l page ≡ true) (sym c.in-Some.ensures.steps) (among_first page c.next.new.self)))

pub pages-preserved : goal.pages-preserved
pages-preserved c =
    let rest = c.next.new.self in
    let steps = c.in-Some.ensures.steps in
    let inv = c.pages.invariant in
    let pushed = c.in_ok-push.ensures.items in
    record {
      shown = shown_pushed c.pages.versions.items c.push.new.self.items _ rest c.args.mem.now pushed c.in_ok-bytes.ensures (subst (λ l. IsShownBut c.pages.versions.items l c.args.mem.now) steps inv.shown);
      among = λ p there. inv.among p (subst (λ l. has_page l p ≡ true) (sym steps) (among_rest c.in-Some.page.now rest p there));
      more = more_pushed c.args.versions.now.items c.pages.versions.items c.push.new.self.items _ inv.more pushed;
      one = pages_pushed c.pages.versions.items c.push.new.self.items _ c.pages.page-iterator rest (pages_of c.args.versions.now.items ++ c.args.changed.now.keys) pushed steps inv.one;
    }
