mod ReadingLemmas
