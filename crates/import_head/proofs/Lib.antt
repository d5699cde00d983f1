mod HeadTests
